-- Which limit a checkpoint passes, and how putting it ends.
use Rattle.std.proofs.Common.{◌≡◌, ℕ, ◌+◌, ◌-◌, ◌^◌, ◌≤◌, ◌<◌, List, [], ◌∷◌, ◌++◌, length, Option, Some, None, Result, Ok, Err, Bool, true, false, nat_lt, min, cond, refl, ap, sym, ◌∙◌, subst, arith}
use Rattle.std.specs.List.{All}
use Rattle.std.proofs.lemmas.List.Elements.{All-cons, All-nil}
use Rattle.std.proofs.lemmas.Bool.Decides.{nat_tests}
use Rattle.ss_safe.specs.Kept.Found.{none_some}
use Rattle.ss_wire.specs.Wire.{IsBytes}
use Rattle.ss_edge.specs.Edge.{Contents, PartlyPut, Rose, with_entry}
use Rattle.ss_graph.specs.declared.graph.Graph.{Graph}
use Rattle.ss_graph.specs.declared.fault.LimitKind.{LimitKind}
use Rattle.ss_graph.specs.declared.fault.LimitKind.TheVariants as limit
use Rattle.ss_piece.specs.Pieces.{Slip}
use Rattle.ss_compose.specs.Compose.{composed}
use Rattle.ss_course.specs.Kept.{most_bytes, most_kept, passed}
use Rattle.ss_top.specs.Answer.{Step, put, line, save_name}
use Rattle.ss_top.specs.Message.{message_text}
use Rattle.ss_top.specs.Printing.{Told}
use Rattle.ss_top.specs.declared.print.Message.TheVariants as message
use Rattle.ss_top.specs.Headline.{Outside, Seen, seen}
use Rattle.ss_top.specs.Doing.{Doing, Does, doing, nothing, saves, saving_unless}
use Rattle.ss_top.specs.declared.doing.Stop.{Stop}
use Rattle.ss_top.specs.declared.doing.Stop.TheVariants as stopped

-- ---- limits

-- the limit, by whether there are too many bytes, and too few checkpoints to pass one
abbrev limit_by : Bool → Bool → ℕ → Option (LimitKind × ℕ)
limit_by large few size = cond large (Some (limit.CheckpointBytes, min size (2 ^ 64 - 1))) (cond few None (Some (limit.Checkpoints, most_kept + 1)))

module _ (count length size : ℕ) (is : size ≡ min length (2 ^ 64 - 1)) where
  pub too_large : most_bytes < size → Some (limit.CheckpointBytes, size) ≡ passed count length
  too_large h =
      let b : nat_lt most_bytes length ≡ true = grind (arith, nat_tests) in
      ap (λ x. Some (limit.CheckpointBytes, x)) is ∙ ap (λ (b : Bool). limit_by b (nat_lt count most_kept) length) (sym b)

  pub within : size ≤ most_bytes → count < most_kept → None ≡ passed count length
  within h k =
      let b : nat_lt most_bytes length ≡ false = grind (arith, nat_tests) in
      let c : nat_lt count most_kept ≡ true = grind (arith, nat_tests) in
      ap (λ (c : Bool). limit_by false c length) (sym c) ∙ ap (λ (b : Bool). limit_by b (nat_lt count most_kept) length) (sym b)

  pub too_many : size ≤ most_bytes → most_kept ≤ count → Some (limit.Checkpoints, most_kept + 1) ≡ passed count length
  too_many h k =
      let b : nat_lt most_bytes length ≡ false = grind (arith, nat_tests) in
      let c : nat_lt count most_kept ≡ false = grind (arith, nat_tests) in
      ap (λ (c : Bool). limit_by false c length) (sym c) ∙ ap (λ (b : Bool). limit_by b (nat_lt count most_kept) length) (sym b)

module _ (count length : ℕ) where
  small_by : (b c : Bool) → nat_lt most_bytes length ≡ b → nat_lt count most_kept ≡ c → limit_by b c length ≡ None → (length ≤ most_bytes) × (count < most_kept)
  small_by true c e f h = absurd (none_some (sym h))
  small_by false true e f h = (grind (arith, nat_tests), grind (arith, nat_tests))
  small_by false false e f h = absurd (none_some (sym h))

  -- what passes no limit is small, and few come before it
  pub is_small : passed count length ≡ None → (length ≤ most_bytes) × (count < most_kept)
  is_small h = small_by (nat_lt most_bytes length) (nat_lt count most_kept) refl refl h

-- ---- one checkpoint

abbrev outside_of : Option Contents → Option (List ℕ) → Outside
outside_of held out = record { held = held; out = out }

one_whole : (bytes : List ℕ) → IsBytes bytes → All IsBytes (bytes ∷ [])
one_whole bytes h = All-cons IsBytes bytes [] h (All-nil IsBytes)

module _ (prefix : List ℕ) (g : Graph) (count time : ℕ) (ps : List Slip) where
  abbrev one_by : Option (LimitKind × ℕ) → Doing
  one_by o = saving_unless o (save_name prefix time) (composed g time ps) (nothing None)

  abbrev limit_of : Option (LimitKind × ℕ)
  limit_of = passed count (length (composed g time ps))

  few_by : (o : Option (LimitKind × ℕ)) → limit_of ≡ o → (one_by o).stop ≡ None → count < most_kept
  few_by None e h = (is_small count (length (composed g time ps)) e).1
  few_by (Some l) e h = absurd (none_some (sym h))

  -- one that is put has few before it
  pub few_before : (doing prefix g count (saves time ps ∷ [])).stop ≡ None → count < most_kept
  few_before h = few_by limit_of refl h

  module _ (old new : Seen) where
    one_as : (o : Option (LimitKind × ℕ)) (r : Result (Unit {0}) Stop) → limit_of ≡ o → Does (one_by o) old new r → Does (doing prefix g count (saves time ps ∷ [])) old new r
    one_as o r e h = subst (λ (o : Option (LimitKind × ℕ)). Does (one_by o) old new r) (sym e) h

  module _ (held held' : Option Contents) (reads reads' puts puts' : List ℕ → ℕ) (out : Option (List ℕ)) (outs : ℕ) (err err' : Option (List ℕ)) (errs errs' : ℕ) (name bytes : List ℕ) (named : name ≡ save_name prefix time) (made : bytes ≡ composed g time ps) (few : limit_of ≡ None) where
    abbrev before : Seen
    before = seen held reads puts out outs err errs

    abbrev after : Seen
    after = seen held' reads' puts' out outs err' errs'

    abbrev step : Step
    step = put (save_name prefix time) (composed g time ps)

    pub save_put : (u : Unit {0}) → held' ≡ with_entry name bytes held → IsBytes bytes → err' ≡ err → Does (doing prefix g count (saves time ps ∷ [])) before after (Ok u)
    save_put u e b q =
        one_as before after None (Ok u) few (
          record {
            done = ap (λ (h : Option Contents). outside_of h out) (e ∙ ap (λ x. with_entry x bytes held) named ∙ ap (λ x. with_entry (save_name prefix time) x held) made);
            bytes = one_whole (composed g time ps) (subst IsBytes made b);
            quiet = q;
          },
          refl,
        )

    pub save_failed : (told : List ℕ) → PartlyPut name bytes held held' → Rose (puts name) (puts' name) → told ≡ name → Told (line (message_text message.WriteFault ++ told)) err err' errs errs'
        → Does (doing prefix g count (saves time ps ∷ [])) before after (Err stopped.WriteFault)
    save_failed told p r e t =
        one_as before after None (Err stopped.WriteFault) few
        (record {
          front = [];
          step = step;
          rest = [];
          steps = refl;
          part = (subst (λ x. PartlyPut (save_name prefix time) x held held') made (subst (λ x. PartlyPut x bytes held held') named p), refl);
          blamed = (subst (λ x. Rose (puts x) (puts' x)) named r, subst (λ (x : List ℕ). Told (line (message_text message.WriteFault ++ x)) err err' errs errs') (e ∙ named) t);
        })

  pub save_stopped : (old : Seen) (kind : LimitKind) (n : ℕ) → limit_of ≡ Some (kind, n) → Does (doing prefix g count (saves time ps ∷ [])) old old (Err (stopped.Limit kind n))
  save_stopped old kind n e = one_as old old (Some (kind, n)) (Err (stopped.Limit kind n)) e (record { done = refl; bytes = All-nil IsBytes; quiet = refl }, refl)
