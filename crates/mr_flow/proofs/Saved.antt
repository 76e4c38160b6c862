-- The forms of packets, queues and loads have the laws of forms.
use Rattle.std.proofs.Common.{◌≡◌, ℕ, zero, suc, eqb, true, List, [], ◌∷◌, ◌++◌, length, refl, sym, ap, ◌∙◌, arith}
use Rattle.std.specs.Prelude.{nat_lt}
use Rattle.std.specs.List.{flat_map}
use Rattle.std.proofs.lemmas.List.Concat.{flat_map-cons}
use Rattle.std.proofs.lemmas.Bool.Decides.{nat_tests}
use Rattle.ss_wire.specs.Form.{IsForm, big_bytes, times}
use Rattle.ss_wire.proofs.Forms.{pair_form, told_form, only_form, choose_form, times_form, times_length, counted_form, each_as_form, respelled_form}
use Rattle.ss_element.specs.declared.fault.RestoreFault.TheVariants as fault
use Rattle.ss_element.specs.Stored.{field}
use Rattle.ss_element.proofs.Stored.{field_form}
use Rattle.mr_flow.specs.declared.Packet.{Packet}
use Rattle.mr_flow.specs.declared.NetLoad.{NetLoad}
use Rattle.mr_flow.specs.declared.NetLoad.TheVariants as net
use Rattle.mr_flow.specs.declared.Load.{Load}
use Rattle.mr_flow.specs.declared.Load.TheVariants as load
use Rattle.mr_flow.specs.Queue.{Row}
use Rattle.mr_flow.specs.Saved.{packet_fields, packet_form, packets_text, counted_packets, packets_form, row_form, Lane, lane_text, lane_form, lanes_form, load_text, kind_of, channel_of, packet_of, credit_of, IsPacket, IsCredit, packet_load_form, credit_load_form, kind_form, load_of_kind, net_form, number_of, net_of, IsCore, IsNet, core_told, net_told, core_load_form, net_load_form}

pub packet_is_form : IsForm packet_form
packet_is_form = told_form packet_fields
    (λ v. record { src = v.0; dst = v.1.0; vn = v.1.1.0; flits = v.1.1.1.0; seq = v.1.1.1.1.0; born = v.1.1.1.1.1.0; tag = v.1.1.1.1.1.1 })
    (λ p. (p.src, (p.dst, (p.vn, (p.flits, (p.seq, (p.born, p.tag)))))))
    (λ p. Unit {0})
    (λ v f. refl) (λ v f. tt) (λ p t. refl)
    (pair_form (field 4) (λ n. _) (field_form 4) (λ n. pair_form (field 4) (λ n. _) (field_form 4) (λ n. pair_form (field 1) (λ n. _) (field_form 1) (λ n. pair_form (field 4) (λ n. _) (field_form 4) (λ n. pair_form (field 8) (λ n. _) (field_form 8) (λ n. pair_form (field 8) (λ n. field 8) (field_form 8) (λ n. field_form 8)))))))

times_spells : (n : ℕ) (ps : List Packet) → (times n packet_form).Fits ps → (times n packet_form).spell ps ≡ flat_map packet_form.spell ps
times_spells zero ps h = sym (ap (flat_map packet_form.spell) h)
times_spells (suc n) [] h = absurd h
times_spells (suc n) (p ∷ ps) h = ap (λ l. packet_form.spell p ++ l) (times_spells n ps h.1) ∙ sym (flat_map-cons packet_form.spell p ps)

pub packets_are_form : IsForm packets_form
packets_are_form = respelled_form counted_packets packets_text
    (λ ps f. ap (λ l. big_bytes 4 (length ps) ++ l) (times_spells (length ps) ps f.2))
    (counted_form fault.Short fault.Value 4 (λ n. true) (λ n. times n packet_form) (λ n. times_form n packet_form packet_is_form) (λ n ps f. times_length n packet_form ps f))

pub row_is_form : (q : Row) → IsForm (row_form q)
row_is_form q = told_form packets_form (λ ps. record { packets = ps; capacity = q.capacity }) (λ r. r.packets) (λ r. r.capacity ≡ q.capacity)
    (λ ps f. refl) (λ ps f. refl) (λ r t. ap (λ n. record { packets = r.packets; capacity = n }) (sym t)) packets_are_form

pub lane_is_form : (l : Lane) → IsForm (lane_form l)
lane_is_form l = told_form _
    (λ v. record { input = v.0; output = v.1.0; credits = v.1.1 })
    (λ m. (m.input, (m.output, m.credits)))
    (λ m. Unit {0})
    (λ v f. refl) (λ v f. tt) (λ m t. refl)
    (pair_form (row_form l.input) (λ a. _) (row_is_form l.input) (λ a. pair_form (row_form l.output) (λ b. field 4) (row_is_form l.output) (λ b. field_form 4)))

pub lanes_are_form : (ls : List Lane) → IsForm (lanes_form ls)
lanes_are_form ls = each_as_form lane_text lane_form (λ l m f. refl) lane_is_form ls

-- ---- loads

packet_load_is_form : IsForm packet_load_form
packet_load_is_form = told_form _ (λ v. net.Packet v.0 v.1) (λ y. (channel_of y, packet_of y)) IsPacket (λ v f. refl) (λ v f. tt) back (pair_form (field 1) (λ c. packet_form) (field_form 1) (λ c. packet_is_form))
  where
    back : (y : NetLoad) → IsPacket y → net.Packet (channel_of y) (packet_of y) ≡ y
    back (net.Packet c p) t = refl
    back (net.Credit c flits) t = absurd t

credit_load_is_form : IsForm credit_load_form
credit_load_is_form = told_form _ (λ v. net.Credit v.0 v.1) (λ y. (channel_of y, credit_of y)) IsCredit (λ v f. refl) (λ v f. tt) back (pair_form (field 1) (λ c. field 4) (field_form 1) (λ c. field_form 4))
  where
    back : (y : NetLoad) → IsCredit y → net.Credit (channel_of y) (credit_of y) ≡ y
    back (net.Packet c p) t = absurd t
    back (net.Credit c flits) t = refl

-- a load of a kind has it
kind_is : (k : ℕ) (y : NetLoad) → nat_lt k 2 ≡ true → (load_of_kind k).Fits y → kind_of y ≡ k
kind_is zero (net.Packet c p) h f = refl
kind_is zero (net.Credit c flits) h f = absurd f.0
kind_is (suc zero) (net.Packet c p) h f = absurd f.0
kind_is (suc zero) (net.Credit c flits) h f = refl
kind_is (suc (suc k)) y h f = absurd (grind (arith, nat_tests))

net_is_form : IsForm net_form
net_is_form = told_form _ (λ v. v.1) (λ y. (kind_of y, y)) (λ y. Unit {0})
    (λ v f. ap (λ k. (k, v.1)) (kind_is v.0 v.1 f.0.1 f.1)) (λ v f. tt) (λ y t. refl)
    (pair_form kind_form load_of_kind (only_form (field 1) (λ k. nat_lt k 2) fault.Value (field_form 1)) (λ k. choose_form (eqb k 0) packet_load_form credit_load_form packet_load_is_form credit_load_is_form))

pub core_load_is_form : IsForm core_load_form
core_load_is_form = respelled_form core_told load_text spells (told_form (field 4) load.Core number_of IsCore (λ n f. refl) (λ n f. tt) back (field_form 4))
  where
    back : (y : Load) → IsCore y → load.Core (number_of y) ≡ y
    back (load.Core n) t = refl
    back (load.Net y) t = absurd t

    spells : (y : Load) → core_told.Fits y → core_told.spell y ≡ load_text y
    spells (load.Core n) f = refl
    spells (load.Net y) f = absurd f.0

pub net_load_is_form : IsForm net_load_form
net_load_is_form = respelled_form net_told load_text spells (told_form net_form load.Net net_of IsNet (λ n f. refl) (λ n f. tt) back net_is_form)
  where
    back : (y : Load) → IsNet y → load.Net (net_of y) ≡ y
    back (load.Core n) t = absurd t
    back (load.Net y) t = refl

    spells : (y : Load) → net_told.Fits y → net_told.spell y ≡ load_text y
    spells (load.Core n) f = absurd f.0
    spells (load.Net (net.Packet c p)) f = refl
    spells (load.Net (net.Credit c flits)) f = refl
