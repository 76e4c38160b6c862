-- What a refusal's line says.
use Rattle.std.specs.Prelude.{ℕ, List, ◌++◌, codes, decimal}
use Rattle.ss_graph.specs.declared.fault.LimitKind.{LimitKind}
use Rattle.ss_graph.specs.declared.fault.LimitKind.TheVariants as limit
use Rattle.ss_ckpt.specs.declared.fault.CkptFault.{CkptFault}
use Rattle.ss_ckpt.specs.declared.fault.CkptFault.TheVariants as form
use Rattle.ss_restart.specs.declared.fault.RestartFault.{RestartFault}
use Rattle.ss_restart.specs.declared.fault.RestartFault.TheVariants as state
use Rattle.ss_top.specs.declared.refusal.Fault.{Fault}
use Rattle.ss_top.specs.declared.refusal.Fault.TheVariants as fault
use Rattle.ss_top.specs.declared.print.Message.{Message}
use Rattle.ss_top.specs.declared.print.Message.TheVariants as message

-- in front of what it names
unfoldable pub message_text : Message → List ℕ
message_text message.Usage = codes "sst: usage: "
message_text message.NotText = codes "sst: text: "
message_text message.Graph = codes "sst: graph: "
message_text message.Limit = codes "sst: limit: "
message_text message.Checkpoint = codes "sst: checkpoint: "
message_text message.ReadFault = codes "sst: read fault: "
message_text message.WriteFault = codes "sst: write fault: "
message_text message.OutputFault = codes "sst: write fault: output"
message_text message.NoMemory = codes "sst: no memory"

-- the name of a graph's fault, and a space
unfoldable pub fault_text : Fault → List ℕ
fault_text fault.Form = codes "Form "
fault_text fault.SharedParams = codes "SharedParams "
fault_text fault.Member = codes "Member "
fault_text fault.Unit = codes "Unit "
fault_text fault.DuplicateName = codes "DuplicateName "
fault_text fault.UnknownComponent = codes "UnknownComponent "
fault_text fault.PortTaken = codes "PortTaken "
fault_text fault.Latency = codes "Latency "
fault_text fault.UnknownType = codes "UnknownType "
fault_text fault.UnknownPort = codes "UnknownPort "
fault_text fault.Param = codes "Param "
fault_text fault.Protocol = codes "Protocol "
fault_text fault.PortUnlinked = codes "PortUnlinked "
fault_text fault.Miswired = codes "Miswired "
fault_text fault.BadThread = codes "BadThread "

-- the name of a counted quantity, and a space
unfoldable pub limit_text : LimitKind → List ℕ
limit_text limit.GraphBytes = codes "graph bytes "
limit_text limit.CheckpointBytes = codes "checkpoint bytes "
limit_text limit.Components = codes "components "
limit_text limit.Links = codes "links "
limit_text limit.Ports = codes "ports "
limit_text limit.NameBytes = codes "name bytes "
limit_text limit.Parts = codes "parts "
limit_text limit.Threads = codes "threads "
limit_text limit.Checkpoints = codes "checkpoints "

-- the text of a line that names a fault and its place, or a quantity and the number that passed its limit
abbrev pub fault_line : Fault → List ℕ → List ℕ
fault_line f place = message_text message.Graph ++ (fault_text f ++ place)

abbrev pub limit_line : LimitKind → ℕ → List ℕ
limit_line k n = message_text message.Limit ++ (limit_text k ++ decimal n)

-- what a line says of bytes that are no checkpoint, and of a state that isn't sound: the fault and its place, where it has one
unfoldable pub misspelled_text : CkptFault → List ℕ
misspelled_text form.Magic = codes "Magic"
misspelled_text form.Form = codes "Form"
misspelled_text (form.Short at) = codes "Short at " ++ decimal at
misspelled_text (form.Value at) = codes "Value at " ++ decimal at
misspelled_text (form.Order at) = codes "Order at " ++ decimal at
misspelled_text (form.Trailing at) = codes "Trailing at " ++ decimal at
misspelled_text form.NoMemory = codes ""

unfoldable pub unsound_text : RestartFault → List ℕ
unsound_text (state.Element component) = codes "Element component " ++ decimal component
unsound_text (state.Payload event) = codes "Payload event " ++ decimal event
unsound_text (state.Time event) = codes "Time event " ++ decimal event
unsound_text (state.Tick clock) = codes "Tick clock " ++ decimal clock
unsound_text (state.Unbalanced line channel) = codes "Unbalanced line " ++ (decimal line ++ (codes " channel " ++ decimal channel))
unsound_text state.NoMemory = codes ""

abbrev pub misspelled_line : CkptFault → List ℕ
misspelled_line f = message_text message.Checkpoint ++ misspelled_text f

abbrev pub unsound_line : RestartFault → List ℕ
unsound_line f = message_text message.Checkpoint ++ unsound_text f
