-- The index of taken ends and the list that it stands for.
use Rattle.std.proofs.Common.{◌≡◌, ℕ, List, [], ◌∷◌, Bool, ap, refl, ◌||◌, ◌&&◌, String, Global, string_bytes, Option, Some, None, true, false, codes}
use Rattle.std.specs.Prelude.{nat_eq}
use Rattle.std.specs.List.{list_any}
use Rattle.std.specs.String.{string_eq}
use Rattle.ss_graph.specs.Links.{is_taken, seen_ends, port_checks, end_place}
use Rattle.ss_graph.specs.Components.{has_text}
use Rattle.ss_graph.specs.Checks.{first_fault}
use Rattle.ss_graph.specs.declared.fault.GraphFault.TheVariants.{PortTaken}
use Rattle.serde_json.specs.Data.{Data}

pub taken_is : (ks : List (ℕ × String Global)) (k : ℕ × String Global) → list_any (λ e. nat_eq k.0 e.0 && string_eq k.1 e.1) ks ≡ is_taken (seen_ends ks) (k.0, string_bytes k.1)
taken_is [] k = refl
taken_is (e ∷ ks) k = ap (λ b. (nat_eq k.0 e.0 && string_eq k.1 e.1) || b) (taken_is ks k)

pub port_taken : (i : ℕ) (side : List ℕ) (o : Option Data) (t : Bool) → has_text o ≡ true → t ≡ true → first_fault (port_checks i side t o) ≡ Some (PortTaken (end_place i side (codes ".port")))
unfolding port_checks first_fault
port_taken i side o t h e = rw (h, e) refl

pub port_free : (i : ℕ) (side : List ℕ) (o : Option Data) (t : Bool) → has_text o ≡ true → t ≡ false → first_fault (port_checks i side t o) ≡ None
unfolding port_checks first_fault
port_free i side o t h e = rw (h, e) refl
