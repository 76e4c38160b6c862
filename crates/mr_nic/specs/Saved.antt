-- How endpoints are saved: the fields of their state, then their statistics.
use Rattle.std.specs.Prelude.{◌≡◌, ℕ, Bool, true, List}
use Rattle.ss_wire.specs.Form.{Form, big_bytes, pair, told, each_as}
use Rattle.ss_stats.specs.Set.{Entry}
use Rattle.ss_element.specs.declared.fault.RestoreFault.{RestoreFault}
use Rattle.ss_element.specs.Stored.{field, stats_form}
use Rattle.ss_element.specs.Saving.{Saving}
use Rattle.mr_flow.specs.Saved.{Lane, lanes_form, lanes_of, with_lanes, load_text, net_load_form}
use Rattle.mr_flow.specs.declared.Load.{Load}
use Rattle.mr_nic.specs.declared.nic.Endpoint.{Endpoint}

-- as many numbers as others, 8 bytes each
abbrev pub numbers_form : List ℕ → Form RestoreFault (List ℕ)
numbers_form numbers = each_as (big_bytes 8) (λ n. field 8) numbers

-- an endpoint in another state
abbrev pub with_state : Endpoint → Bool → ℕ → ℕ → ℕ → ℕ → List Lane → List ℕ → List ℕ → List Entry → Endpoint
with_state n begun sent received line_free pump lanes expected next stats = record n {
  link = record (with_lanes n.link lanes) { line_free = line_free; pump = pump };
  begun = begun;
  sent = sent;
  received = received;
  expected = expected;
  next = next;
  stats = stats;
}

-- 8 bytes each of what was sent, what was received and when the line is free, 1 of the network whose turn it is; then what stands
-- on the networks, 8 bytes for each expected number, by source and then by network, and for each number of a generator's
-- destinations; and the statistics
abbrev pub endpoint_fields : Endpoint → Form RestoreFault (ℕ × (ℕ × (ℕ × (ℕ × (List Lane × (List ℕ × (List ℕ × List Entry)))))))
endpoint_fields n = pair (field 8) (λ a. pair (field 8) (λ b. pair (field 8) (λ c. pair (field 1) (λ d. pair (lanes_form (lanes_of n.link)) (λ e. pair (numbers_form n.expected) (λ f. pair (numbers_form n.next) (λ g. stats_form n.stats)))))))

abbrev pub endpoint_form : Endpoint → Form RestoreFault Endpoint
endpoint_form n = told (endpoint_fields n)
    (λ v. with_state n true v.0 v.1.0 v.1.1.0 v.1.1.1.0 v.1.1.1.1.0 v.1.1.1.1.1.0 v.1.1.1.1.1.1.0 v.1.1.1.1.1.1.1)
    (λ m. (m.sent, (m.received, (m.link.line_free, (m.link.pump, (lanes_of m.link, (m.expected, (m.next, m.stats))))))))
    (λ m. m ≡ with_state n true m.sent m.received m.link.line_free m.link.pump (lanes_of m.link) m.expected m.next m.stats)

abbrev pub endpoint_saving : Saving Endpoint Load
endpoint_saving = record {
  spell = λ n. (endpoint_form n).spell n;
  read = λ n. (endpoint_form n).read;
  IsOf = λ n. (endpoint_form n).Fits;
  spell_load = load_text;
  read_load = λ n. net_load_form.read;
  IsLoadOf = λ n. net_load_form.Fits;
}
