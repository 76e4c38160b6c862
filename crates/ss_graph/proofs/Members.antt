-- The members of an object and the entries that it has.
use Rattle.std.proofs.Common.{◌≡◌, ◌==◌, List, [], ◌∷◌, length, true, false, String, Global, refl, arith}
use Rattle.std.proofs.lemmas.Bool.Decides.{nat_tests}
use Rattle.serde_json.specs.View.{members_view}
use Rattle.serde_json.specs.declared.value.Value.{Value}
use Rattle.ss_graph.specs.Judge.{no_member}

pub no_members_counted : (es : List (String Global × Value)) → no_member (members_view es) ≡ (length es == 0)
no_members_counted [] = refl
no_members_counted (e ∷ es) = grind (arith, nat_tests)
