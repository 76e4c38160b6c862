use Rattle.mr_flow.proofs.Saved.{packets_are_form, lanes_are_form, core_load_is_form, net_load_is_form}
use Rattle.mr_flow.proofs.laws.what_was_saved_is_read.Goals as goal

pub returns : goal.returns
returns c = record { packets = packets_are_form; lanes = lanes_are_form; core = core_load_is_form; net = net_load_is_form }
