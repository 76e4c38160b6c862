-- How a router is saved: its ports, then the turns of its outputs, then its statistics.
use Rattle.std.specs.Prelude.{◌≡◌, ℕ, List, ◌++◌}
use Rattle.std.specs.List.{flat_map}
use Rattle.ss_wire.specs.Form.{Form, big_bytes, pair, told, each_as}
use Rattle.ss_stats.specs.Set.{Entry}
use Rattle.ss_element.specs.declared.fault.RestoreFault.{RestoreFault}
use Rattle.ss_element.specs.Saving.{Saving}
use Rattle.ss_element.specs.Stored.{field, stats_form}
use Rattle.mr_flow.specs.declared.Load.{Load}
use Rattle.mr_flow.specs.Saved.{Lane, lane_text, lanes_form, lanes_of, with_lanes, load_text, net_load_form}
use Rattle.mr_arb.specs.declared.turn.Turn.{Turn}
use Rattle.mr_router.specs.Turns.{turns_form}
use Rattle.mr_router.specs.declared.port.Port.{Port}
use Rattle.mr_router.specs.Router.{Switch}

-- a port: 8 bytes each of when its line, its input and its output are free, 1 of the channel whose turn it is, and its channels
abbrev pub with_port : Port → ℕ → ℕ → ℕ → ℕ → List Lane → Port
with_port p line_free in_free cross_free pump lanes = record p { line = with_lanes (record p.line { line_free = line_free; pump = pump }) lanes; in_free = in_free; cross_free = cross_free }

abbrev pub port_text : Port → List ℕ
port_text p = big_bytes 8 p.line.line_free ++ (big_bytes 8 p.in_free ++ (big_bytes 8 p.cross_free ++ (big_bytes 1 p.line.pump ++ flat_map lane_text (lanes_of p.line))))

abbrev pub port_fields : Port → Form RestoreFault (ℕ × (ℕ × (ℕ × (ℕ × List Lane))))
port_fields p = pair (field 8) (λ a. pair (field 8) (λ b. pair (field 8) (λ c. pair (field 1) (λ d. lanes_form (lanes_of p.line)))))

abbrev pub port_form : Port → Form RestoreFault Port
port_form p = told (port_fields p)
    (λ v. with_port p v.0 v.1.0 v.1.1.0 v.1.1.1.0 v.1.1.1.1)
    (λ q. (q.line.line_free, (q.in_free, (q.cross_free, (q.line.pump, lanes_of q.line)))))
    (λ q. q ≡ with_port p q.line.line_free q.in_free q.cross_free q.line.pump (lanes_of q.line))

abbrev pub ports_form : List Port → Form RestoreFault (List Port)
ports_form ports = each_as port_text port_form ports

-- a router
abbrev pub with_router : Switch → List Port → List Turn → List Entry → Switch
with_router x ports turns stats = record x { ports = ports; turns = turns; stats = stats }

abbrev pub router_fields : Switch → Form RestoreFault (List Port × (List Turn × List Entry))
router_fields x = pair (ports_form x.ports) (λ a. pair (turns_form x.turns) (λ b. stats_form x.stats))

abbrev pub router_form : Switch → Form RestoreFault Switch
router_form x = told (router_fields x)
    (λ v. with_router x v.0 v.1.0 v.1.1)
    (λ y. (y.ports, (y.turns, y.stats)))
    (λ y. y ≡ with_router x y.ports y.turns y.stats)

abbrev pub router_saving : Saving Switch Load
router_saving = record {
  spell = λ x. (router_form x).spell x;
  read = λ x. (router_form x).read;
  IsOf = λ x. (router_form x).Fits;
  spell_load = load_text;
  read_load = λ x. net_load_form.read;
  IsLoadOf = λ x. net_load_form.Fits;
}
