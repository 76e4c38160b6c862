-- How packets, queues and loads are saved: field by field, high byte first.
use Rattle.std.specs.Prelude.{◌≡◌, ℕ, ◌==◌, nat_lt, true, List, [], ◌∷◌, ◌++◌, length, map}
use Rattle.std.specs.List.{flat_map}
use Rattle.ss_wire.specs.Form.{Form, big_bytes, only, pair, told, choose, times, counted, each_as}
use Rattle.ss_element.specs.declared.fault.RestoreFault.{RestoreFault}
use Rattle.ss_element.specs.declared.fault.RestoreFault.TheVariants as fault
use Rattle.ss_element.specs.Stored.{field}
use Rattle.mr_flow.specs.declared.Packet.{Packet}
use Rattle.mr_flow.specs.declared.NetLoad.{NetLoad}
use Rattle.mr_flow.specs.declared.NetLoad.TheVariants as net
use Rattle.mr_flow.specs.declared.Load.{Load}
use Rattle.mr_flow.specs.declared.Load.TheVariants as load
use Rattle.mr_flow.specs.Queue.{Row}
use Rattle.mr_flow.specs.Side.{Side, input, output, credits_at}

-- a packet: source 4, destination 4, virtual network 1, flits 4, number 8, when it was made 8, tag 8
abbrev pub packet_fields : Form RestoreFault (ℕ × (ℕ × (ℕ × (ℕ × (ℕ × (ℕ × ℕ))))))
packet_fields = pair (field 4) (λ a. pair (field 4) (λ b. pair (field 1) (λ c. pair (field 4) (λ d. pair (field 8) (λ e. pair (field 8) (λ f. field 8))))))

abbrev pub packet_form : Form RestoreFault Packet
packet_form = told packet_fields
    (λ v. record { src = v.0; dst = v.1.0; vn = v.1.1.0; flits = v.1.1.1.0; seq = v.1.1.1.1.0; born = v.1.1.1.1.1.0; tag = v.1.1.1.1.1.1 })
    (λ p. (p.src, (p.dst, (p.vn, (p.flits, (p.seq, (p.born, p.tag)))))))
    (λ p. Unit {0})

-- a queue with the capacity of another: a count of 4 bytes, and the packets from the front
abbrev pub packets_text : List Packet → List ℕ
packets_text ps = big_bytes 4 (length ps) ++ flat_map packet_form.spell ps

abbrev pub counted_packets : Form RestoreFault (List Packet)
counted_packets = counted fault.Short fault.Value 4 (λ n. true) (λ n. times n packet_form)

abbrev pub packets_form : Form RestoreFault (List Packet)
packets_form = record { spell = packets_text; read = counted_packets.read; Fits = counted_packets.Fits }

abbrev pub row_form : Row → Form RestoreFault Row
row_form q = told packets_form (λ ps. record { packets = ps; capacity = q.capacity }) (λ r. r.packets) (λ r. r.capacity ≡ q.capacity)

-- a channel of a line's end: what came in, what is to go out, and 4 bytes of the credits
pub record Lane : Type 0 where
  pub input : Row
  pub output : Row
  pub credits : ℕ

abbrev pub lane_text : Lane → List ℕ
lane_text l = packets_text l.input.packets ++ (packets_text l.output.packets ++ big_bytes 4 l.credits)

abbrev pub lane_form : Lane → Form RestoreFault Lane
lane_form l = told (pair (row_form l.input) (λ a. pair (row_form l.output) (λ b. field 4)))
    (λ v. record { input = v.0; output = v.1.0; credits = v.1.1 })
    (λ m. (m.input, (m.output, m.credits)))
    (λ m. Unit {0})

abbrev pub lanes_form : List Lane → Form RestoreFault (List Lane)
lanes_form ls = each_as lane_text lane_form ls

-- the channels of a line's end, and the end with others
abbrev pub lanes_by : List Row → List Row → List ℕ → List Lane
lanes_by [] outputs credits = []
lanes_by (i ∷ inputs) [] credits = []
lanes_by (i ∷ inputs) (o ∷ outputs) [] = []
lanes_by (i ∷ inputs) (o ∷ outputs) (n ∷ credits) = record { input = i; output = o; credits = n } ∷ lanes_by inputs outputs credits

abbrev pub lanes_of : Side → List Lane
lanes_of s = lanes_by s.inputs s.outputs s.credits

abbrev pub lane_of : Side → ℕ → Lane
lane_of s c = record { input = input s c; output = output s c; credits = credits_at s c }

abbrev pub with_lanes : Side → List Lane → Side
with_lanes s ls = record s { inputs = map (λ l. l.input) ls; outputs = map (λ l. l.output) ls; credits = map (λ l. l.credits) ls }

-- ---- loads

-- a load of a network: 1 byte of its kind, 1 of its channel, and then a packet, or 4 bytes of a credit's flits
abbrev pub net_text : NetLoad → List ℕ
net_text (net.Packet c p) = big_bytes 1 0 ++ (big_bytes 1 c ++ packet_form.spell p)
net_text (net.Credit c flits) = big_bytes 1 1 ++ (big_bytes 1 c ++ big_bytes 4 flits)

-- a load of a core kind: 4 bytes of its number
abbrev pub load_text : Load → List ℕ
load_text (load.Core n) = big_bytes 4 n
load_text (load.Net y) = net_text y

abbrev pub kind_of : NetLoad → ℕ
kind_of (net.Packet c p) = 0
kind_of (net.Credit c flits) = 1

abbrev pub channel_of : NetLoad → ℕ
channel_of (net.Packet c p) = c
channel_of (net.Credit c flits) = c

abbrev pub packet_of : NetLoad → Packet
packet_of (net.Packet c p) = p
packet_of (net.Credit c flits) = record { src = 0; dst = 0; vn = 0; flits = 0; seq = 0; born = 0; tag = 0 }

abbrev pub credit_of : NetLoad → ℕ
credit_of (net.Packet c p) = 0
credit_of (net.Credit c flits) = flits

abbrev pub IsPacket : NetLoad → Type 0
IsPacket (net.Packet c p) = Unit {0}
IsPacket (net.Credit c flits) = ⊥

abbrev pub IsCredit : NetLoad → Type 0
IsCredit (net.Packet c p) = ⊥
IsCredit (net.Credit c flits) = Unit {0}

abbrev pub packet_load_form : Form RestoreFault NetLoad
packet_load_form = told (pair (field 1) (λ c. packet_form)) (λ v. net.Packet v.0 v.1) (λ y. (channel_of y, packet_of y)) IsPacket

abbrev pub credit_load_form : Form RestoreFault NetLoad
credit_load_form = told (pair (field 1) (λ c. field 4)) (λ v. net.Credit v.0 v.1) (λ y. (channel_of y, credit_of y)) IsCredit

abbrev pub kind_form : Form RestoreFault ℕ
kind_form = only (field 1) (λ k. nat_lt k 2) fault.Value

abbrev pub load_of_kind : ℕ → Form RestoreFault NetLoad
load_of_kind k = choose (k == 0) packet_load_form credit_load_form

abbrev pub net_form : Form RestoreFault NetLoad
net_form = told (pair kind_form load_of_kind) (λ v. v.1) (λ y. (kind_of y, y)) (λ y. Unit {0})

abbrev pub number_of : Load → ℕ
number_of (load.Core n) = n
number_of (load.Net y) = 0

abbrev pub net_of : Load → NetLoad
net_of (load.Core n) = net.Credit 0 0
net_of (load.Net y) = y

abbrev pub IsCore : Load → Type 0
IsCore (load.Core n) = Unit {0}
IsCore (load.Net y) = ⊥

abbrev pub IsNet : Load → Type 0
IsNet (load.Core n) = ⊥
IsNet (load.Net y) = Unit {0}

abbrev pub core_told : Form RestoreFault Load
core_told = told (field 4) load.Core number_of IsCore

abbrev pub net_told : Form RestoreFault Load
net_told = told net_form load.Net net_of IsNet

-- the loads of core kinds, and those of networks
abbrev pub core_load_form : Form RestoreFault Load
core_load_form = record { spell = load_text; read = core_told.read; Fits = core_told.Fits }

abbrev pub net_load_form : Form RestoreFault Load
net_load_form = record { spell = load_text; read = net_told.read; Fits = net_told.Fits }
