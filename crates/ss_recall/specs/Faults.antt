-- Faults of bytes and of states, as those of bytes that are read back.
use Rattle.ss_ckpt.specs.declared.fault.CkptFault.{CkptFault}
use Rattle.ss_ckpt.specs.declared.fault.CkptFault.TheVariants as form
use Rattle.ss_restart.specs.declared.fault.RestartFault.{RestartFault}
use Rattle.ss_restart.specs.declared.fault.RestartFault.TheVariants as state
use Rattle.ss_recall.specs.declared.fault.RecallFault.{RecallFault}
use Rattle.ss_recall.specs.declared.fault.RecallFault.TheVariants as fault

abbrev pub of_form : CkptFault → RecallFault
of_form form.Magic = fault.Form form.Magic
of_form form.Form = fault.Form form.Form
of_form (form.Short at) = fault.Form (form.Short at)
of_form (form.Value at) = fault.Form (form.Value at)
of_form (form.Order at) = fault.Form (form.Order at)
of_form (form.Trailing at) = fault.Form (form.Trailing at)
of_form form.NoMemory = fault.NoMemory

abbrev pub of_state : RestartFault → RecallFault
of_state (state.Element c) = fault.State (state.Element c)
of_state (state.Payload i) = fault.State (state.Payload i)
of_state (state.Time i) = fault.State (state.Time i)
of_state (state.Tick n) = fault.State (state.Tick n)
of_state (state.Unbalanced l ch) = fault.State (state.Unbalanced l ch)
of_state state.NoMemory = fault.NoMemory
