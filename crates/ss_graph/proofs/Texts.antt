-- A text as a whole.
use Rattle.std.proofs.Common.{◌≡◌, ◌<◌, ◌≤◌, ℕ, List, [], ◌∷◌, ◌++◌, length, Bool, true, false, Some, None, Option, refl, arith, ◌⊎◌, inl, inr, IsUtf8}
use Rattle.std.proofs.lemmas.Str.{is_utf8-from_IsUtf8, IsUtf8-from_is_utf8}
use Rattle.std.specs.Str.{is_utf8}
use Rattle.serde_json.specs.Read.{read}
use Rattle.std.specs.Prelude.{nat_le, is_some}
use Rattle.std.proofs.lemmas.Bool.Decides.{nat_tests}
use Rattle.serde_json.specs.Data.{Data}
use Rattle.ss_graph.specs.declared.fault.GraphFault.{GraphFault}
use Rattle.ss_graph.specs.declared.fault.GraphFault.TheVariants as fault
use Rattle.ss_graph.specs.declared.fault.LimitKind.TheVariants as limit
use Rattle.ss_graph.specs.Checks.{first_fault, Fails}
use Rattle.ss_graph.specs.Faults.{is_memory}
use Rattle.ss_graph.specs.Judge.{json, text_checks, value_checks, graph_of, graph_of_value}

pub judged_long : (text : List ℕ) → 67108864 < length text → first_fault (text_checks text) ≡ Some (fault.Limit limit.GraphBytes (length text))
unfolding text_checks first_fault
judged_long text h = let t : nat_le (length text) 67108864 ≡ false = grind (arith, nat_tests) in rw t refl

pub judged_value : (text : List ℕ) (d : Data) → length text ≤ 67108864 → json text ≡ Some d → (first_fault (text_checks text) ≡ first_fault (value_checks d)) × (graph_of text ≡ graph_of_value text d)
unfolding text_checks first_fault graph_of
judged_value text d h e = let t : nat_le (length text) 67108864 ≡ true = grind (arith, nat_tests) in (rw (t, e) refl, rw e refl)

pub judged_fault : (text : List ℕ) (e : GraphFault) → length text ≤ 67108864 → (e ≡ fault.NoMemory) ⊎ ((e ≡ fault.Text) × (json text ≡ None)) → Fails is_memory e (first_fault (text_checks text))
unfolding text_checks first_fault
judged_fault text e h (inl m) = rw m refl
judged_fault text e h (inr p) = let t : nat_le (length text) 67108864 ≡ true = grind (arith, nat_tests) in rw (p.0, t, p.1) refl

pub json_value : (t : List ℕ) (d : Data) → IsUtf8 t → read t ≡ Some d → json t ≡ Some d
json_value t d u r = rw (is_utf8-from_IsUtf8 t u, r) refl

json_by : (b : Bool) (t : List ℕ) → is_utf8 t ≡ b → (IsUtf8 t → read t ≡ None) → json t ≡ None
json_by true t e h = rw (e, h (IsUtf8-from_is_utf8 t e)) refl
json_by false t e h = rw e refl

pub json_none : (t : List ℕ) → (IsUtf8 t → read t ≡ None) → json t ≡ None
json_none t h = json_by (is_utf8 t) t refl h
