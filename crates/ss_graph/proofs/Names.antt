-- The set of names and the list that it stands for.
use Rattle.std.proofs.Common.{◌≡◌, ℕ, suc, cond, Some, option_map, position, List, [], ◌∷◌, ◌++◌, map, Bool, true, false, refl, ap, ◌||◌, arith, length, String, Global, string_bytes}
use Rattle.std.proofs.lemmas.List.{map-append, length-map}
use Rattle.std.proofs.lemmas.Grind.{common_steps}
use Rattle.std.specs.List.{position_or_len}
use Rattle.std.specs.List.{list_any}
use Rattle.std.specs.String.{string_eq}
use Rattle.std.specs.Str.{bytes_eq}
use Rattle.indexmap.specs.IndexSet.{insert_key}
use Rattle.ss_graph.specs.Components.{place_in}

pub taken_name : (ks : List (String Global)) (k : String Global) → list_any (string_eq k) ks ≡ list_any (bytes_eq (string_bytes k)) (map string_bytes ks)
taken_name [] k = refl
taken_name (n ∷ ks) k = ap (λ b. string_eq k n || b) (taken_name ks k)

pub noted_name : (ks : List (String Global)) (k : String Global) → list_any (string_eq k) ks ≡ false → map string_bytes (insert_key string_eq ks k) ≡ map string_bytes ks ++ string_bytes k ∷ []
noted_name ks k h = rw h (map-append string_bytes ks (k ∷ []))

first_name : (q : List ℕ) (ks : List (String Global)) → position_or_len (bytes_eq q) (map string_bytes ks) ≡ position_or_len (λ k. bytes_eq q (string_bytes k)) ks
first_name q [] = refl
first_name q (k ∷ ks) = grind (arith, first_name q ks, common_steps)

pub place_name : (q : List ℕ) (ks : List (String Global)) → position (λ k. bytes_eq q (string_bytes k)) ks ≡ place_in (map string_bytes ks) q
place_name q ks = rw (first_name q ks, length-map ks string_bytes) refl
