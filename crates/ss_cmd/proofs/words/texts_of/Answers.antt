use Rattle.std.proofs.Common.{◌≡◌, ◌∙◌, ◌+◌, ◌++◌, drop, ◌∷◌, [], ap, sym, subst, rules, ◌<◌, ℕ, zero, suc, List, length, arith, slice_index_or}
use Rattle.std.proofs.lemmas.List.{map-append}
use Rattle.ss_cmd.specs.Reads.{Texts}
use Rattle.ss_cmd.specs.Words.{texts}
use Rattle.ss_cmd.proofs.Logs.{texts-more}
use Rattle.ss_cmd.proofs.Walks.{append-assoc}
use Rattle.ss_cmd.proofs.words.texts_of.Goals as goal

cut-at : (xs : List (List ℕ)) (i : ℕ) (x : List ℕ) → i < length xs → x ≡ slice_index_or xs i x → drop i xs ≡ x ∷ drop (suc i) xs
cut-at [] i x lt at = absurd (omega arith)
cut-at (y ∷ ys) zero x lt at = ap (λ z. z ∷ ys) (sym at)
cut-at (y ∷ ys) (suc i) x lt at = cut-at ys i x (omega arith) at

next : (i : ℕ) → suc i ≡ i + 1
next i = omega arith

pub loop-word-preserved : goal.loop-word-preserved
loop-word-preserved c =
    let pushed : texts c.push.new.self.items ≡ texts c.loop-word.read.items ++ c.as_str.result.now ∷ [] =
    ap texts c.in_ok-push.ensures.items ∙ map-append (λ s. s.now) c.loop-word.read.items (c.as_str.result ∷ []) in
    let cut : drop c.loop-word.word-index c.args.words.now ≡ c.as_str.result.now ∷ drop (c.loop-word.word-index + 1) c.args.words.now =
    cut-at c.args.words.now c.loop-word.word-index c.as_str.result.now (search rules) (search rules)
    ∙ ap (λ k. c.as_str.result.now ∷ drop k c.args.words.now) (next c.loop-word.word-index) in
    record {
      same = c.loop-word.invariant.same ∙ ap (λ l. texts c.loop-word.read.items ++ l) cut
          ∙ sym (append-assoc (texts c.loop-word.read.items) (c.as_str.result.now ∷ []) (drop (c.loop-word.word-index + 1) c.args.words.now))
          ∙ ap (λ l. l ++ drop (c.loop-word.word-index + 1) c.args.words.now) (sym pushed);
      text = subst Texts (sym pushed) (texts-more (texts c.loop-word.read.items) c.as_str.result.now c.loop-word.invariant.text c.as_str.utf8);
    }
