-- The form of a router has the laws of forms.
use Rattle.std.proofs.Common.{◌≡◌, List, [], ◌∷◌, map, refl, sym, ap}
use Rattle.ss_wire.specs.Form.{IsForm}
use Rattle.ss_wire.proofs.Forms.{pair_form, told_form, each_as_form}
use Rattle.ss_element.specs.Stored.{field, stats_form}
use Rattle.ss_element.proofs.Stored.{field_form, stats_are_form}
use Rattle.mr_flow.specs.Saved.{Lane, lanes_by, lanes_form, lanes_of}
use Rattle.mr_flow.proofs.Saved.{lanes_are_form}
use Rattle.ss_wire.specs.Form.{big_bytes}
use Rattle.ss_wire.proofs.Forms.{nothing_form}
use Rattle.mr_arb.specs.declared.turn.Turn.{Turn}
use Rattle.mr_arb.specs.declared.turn.Turn.TheVariants as turn
use Rattle.mr_router.specs.Turns.{first_of, slots_in, IsRoundRobin, IsLeastRecent, turn_text, order_form, turn_form, turns_form}
use Rattle.mr_router.specs.declared.port.Port.{Port}
use Rattle.mr_router.specs.Router.{Switch}
use Rattle.mr_router.specs.Saved.{with_port, port_text, port_fields, port_form, ports_form, with_router, router_fields, router_form}

-- ---- turns

turn_is_form : (t : Turn) → IsForm (turn_form t)
turn_is_form (turn.RoundRobin first) = told_form (field 4) turn.RoundRobin first_of IsRoundRobin (λ n f. refl) (λ n f. tt) back (field_form 4)
  where
    back : (t : Turn) → IsRoundRobin t → turn.RoundRobin (first_of t) ≡ t
    back (turn.RoundRobin first) h = refl
    back (turn.LeastRecent order) h = absurd h
    back turn.Age h = absurd h
turn_is_form (turn.LeastRecent order) = told_form (order_form order) turn.LeastRecent slots_in IsLeastRecent (λ n f. refl) (λ n f. tt) back (each_as_form (big_bytes 2) (λ s. field 2) (λ s n f. refl) (λ s. field_form 2) order)
  where
    back : (t : Turn) → IsLeastRecent t → turn.LeastRecent (slots_in t) ≡ t
    back (turn.RoundRobin first) h = absurd h
    back (turn.LeastRecent o) h = refl
    back turn.Age h = absurd h
turn_is_form turn.Age = nothing_form turn.Age

spells_so : (t u : Turn) → (turn_form t).Fits u → (turn_form t).spell u ≡ turn_text u
spells_so (turn.RoundRobin a) (turn.RoundRobin b) f = refl
spells_so (turn.RoundRobin a) (turn.LeastRecent o) f = absurd f.0
spells_so (turn.RoundRobin a) turn.Age f = absurd f.0
spells_so (turn.LeastRecent a) (turn.RoundRobin b) f = absurd f.0
spells_so (turn.LeastRecent a) (turn.LeastRecent o) f = refl
spells_so (turn.LeastRecent a) turn.Age f = absurd f.0
spells_so turn.Age u f = ap turn_text (sym f)

pub turns_are_form : (ts : List Turn) → IsForm (turns_form ts)
turns_are_form ts = each_as_form turn_text turn_form spells_so turn_is_form ts

-- ---- ports

lanes_back : (ls : List Lane) → lanes_by (map (λ l. l.input) ls) (map (λ l. l.output) ls) (map (λ l. l.credits) ls) ≡ ls
lanes_back [] = refl
lanes_back (l ∷ ls) = ap (λ m. l ∷ m) (lanes_back ls)

port_is_form : (p : Port) → IsForm (port_form p)
port_is_form p = told_form (port_fields p)
    (λ v. with_port p v.0 v.1.0 v.1.1.0 v.1.1.1.0 v.1.1.1.1)
    (λ q. (q.line.line_free, (q.in_free, (q.cross_free, (q.line.pump, lanes_of q.line)))))
    (λ q. q ≡ with_port p q.line.line_free q.in_free q.cross_free q.line.pump (lanes_of q.line))
    (λ v f. ap (λ ls. (v.0, (v.1.0, (v.1.1.0, (v.1.1.1.0, ls))))) (lanes_back v.1.1.1.1))
    (λ v f. ap (with_port p v.0 v.1.0 v.1.1.0 v.1.1.1.0) (sym (lanes_back v.1.1.1.1)))
    (λ q t. sym t)
    (pair_form (field 8) (λ a. _) (field_form 8) (λ a. pair_form (field 8) (λ b. _) (field_form 8) (λ b. pair_form (field 8) (λ c. _) (field_form 8) (λ c. pair_form (field 1) (λ d. lanes_form (lanes_of p.line)) (field_form 1) (λ d. lanes_are_form (lanes_of p.line))))))

pub ports_are_form : (ports : List Port) → IsForm (ports_form ports)
ports_are_form ports = each_as_form port_text port_form (λ p q f. refl) port_is_form ports

pub router_is_form : (x : Switch) → IsForm (router_form x)
router_is_form x = told_form (router_fields x)
    (λ v. with_router x v.0 v.1.0 v.1.1)
    (λ y. (y.ports, (y.turns, y.stats)))
    (λ y. y ≡ with_router x y.ports y.turns y.stats)
    (λ v f. refl) (λ v f. refl) (λ y t. sym t)
    (pair_form (ports_form x.ports) (λ a. _) (ports_are_form x.ports) (λ a. pair_form (turns_form x.turns) (λ b. stats_form x.stats) (turns_are_form x.turns) (λ b. stats_are_form x.stats)))
