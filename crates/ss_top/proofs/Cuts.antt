-- Lines that are written and checkpoints that are put behind them.
use Rattle.std.proofs.Common.{◌≡◌, ℕ, zero, suc, ◌+◌, ◌<◌, ◌≤◌, List, [], ◌∷◌, map, length, get_or, Option, None, Some, Result, Err, refl, sym, ◌∙◌, subst, arith}
use Rattle.std.specs.List.{Contains}
use Rattle.ss_model.specs.declared.Line.{Line}
use Rattle.ss_model.specs.End.{text_of}
use Rattle.ss_graph.specs.declared.graph.Graph.{Graph}
use Rattle.ss_piece.specs.Pieces.{Slip}
use Rattle.ss_graph.specs.declared.fault.LimitKind.{LimitKind}
use Rattle.ss_safe.specs.Kept.Found.{none_some}
use Rattle.ss_compose.specs.Compose.{AreApart, composed}
use Rattle.ss_course.specs.Kept.{most_kept, passed}
use Rattle.ss_top.specs.Answer.{save_name}
use Rattle.ss_join.specs.Cutting.{Given}
use Rattle.ss_top.specs.Headline.{Seen, Counted}
use Rattle.ss_top.specs.Doing.{Act, AreWhole, Does, Doing, Done, FailsIn, doing, listing, prints, saves, saves_in, saving_unless}
use Rattle.ss_top.specs.declared.doing.Stop.{Stop}
use Rattle.ss_top.specs.declared.doing.Stop.TheVariants as stopped
use Rattle.ss_top.proofs.Onward.{count_behind, does_next, does_first}
use Rattle.ss_top.proofs.Saving.{is_small}

module _ (prefix : List ℕ) (g : Graph) (count : ℕ) (old new : Seen) where
  -- the lines could not be written
  pub lines_stop : (lines ls : List Line) (acts : List Act) → lines ≡ ls → FailsIn (listing (map text_of lines)).steps old new → Does (doing prefix g count (prints ls ∷ acts)) old new (Err stopped.WriteFault)
  lines_stop lines ls acts e f =
      subst (λ (xs : List Line). Does (doing prefix g count (prints xs ∷ acts)) old new (Err stopped.WriteFault)) e
      (does_first (listing (map text_of lines)) (doing prefix g count acts) old new stopped.WriteFault f)

  -- they were, and what comes behind them ended so
  pub lines_then : (lines ls : List Line) (times ts : List ℕ) (pieces ps : List Slip) (mid : Seen) → lines ≡ ls → times ≡ ts → pieces ≡ ps → Done (listing (map text_of lines)) old mid → Counted old mid → Counted mid new → (r : Result (Unit {0}) Stop)
      → Does (doing prefix g count (map (λ t. saves t pieces) times)) mid new r → Does (doing prefix g count (prints ls ∷ map (λ t. saves t ps) ts)) old new r
  lines_then lines ls times ts pieces ps mid e f h done before behind r k =
      subst (λ (xs : List Line). Does (doing prefix g count (prints xs ∷ map (λ t. saves t ps) ts)) old new r) e
      (subst (λ (xs : List ℕ). Does (doing prefix g count (prints lines ∷ map (λ t. saves t ps) xs)) old new r) f
      (subst (λ (xs : List Slip). Does (doing prefix g count (prints lines ∷ map (λ t. saves t xs) times)) old new r) h
      (does_next (listing (map text_of lines)) (doing prefix g count (map (λ t. saves t pieces) times)) old mid new done before behind r refl k)))

pub apart_as : (times ts : List ℕ) (pieces ps : List Slip) → times ≡ ts → pieces ≡ ps → ((t : ℕ) → Contains ts t → AreApart ps) → (t : ℕ) → Contains times t → AreApart pieces
apart_as times ts pieces ps f h k t c = subst (λ (xs : List Slip). AreApart xs) (sym h) (k t (subst (λ (xs : List ℕ). Contains xs t) f c))

-- ---- how many checkpoints there are

pub count-saves : (ps : List Slip) (ts : List ℕ) (n : ℕ) → count_behind n (map (λ t. saves t ps) ts) ≡ n + length ts
count-saves ps [] n = omega arith
count-saves ps (t ∷ ts) n = count-saves ps ts (suc n) ∙ omega arith

module _ (prefix : List ℕ) (g : Graph) (ps : List Slip) where
  abbrev saves_doing : ℕ → List ℕ → Doing
  saves_doing n ts = doing prefix g n (map (λ t. saves t ps) ts)

  few_more : (t : ℕ) (ts : List ℕ) (n : ℕ) → ((saves_doing (suc n) ts).stop ≡ None → suc n ≤ most_kept → suc n + length ts ≤ most_kept) → (o : Option (LimitKind × ℕ)) → passed n (length (composed g t ps)) ≡ o
      → (saving_unless o (save_name prefix t) (composed g t ps) (saves_doing (suc n) ts)).stop ≡ None → n + suc (length ts) ≤ most_kept
  few_more t ts n behind None e h =
      let few : n < most_kept = (is_small n (length (composed g t ps)) e).1 in
      let rest : suc n + length ts ≤ most_kept = behind h (omega (arith, few)) in
      omega (arith, rest)
  few_more t ts n behind (Some l) e h = absurd (none_some (sym h))

  -- where all were put there are few enough
  pub saves_few : (ts : List ℕ) (n : ℕ) → (saves_doing n ts).stop ≡ None → n ≤ most_kept → n + length ts ≤ most_kept
  saves_few [] n e h = omega (arith, h)
  saves_few (t ∷ ts) n e h = few_more t ts n (λ a b. saves_few ts (suc n) a b) (passed n (length (composed g t ps))) refl e

-- ---- cuts

abbrev pub cut_acts : Given → List Act
cut_acts c = prints c.lines ∷ saves_in c

pub whole_at : (cs : List Given) (i : ℕ) (c : Given) → AreWhole cs → i < length cs → c ≡ get_or cs i c → (t : ℕ) → Contains c.saves t → AreApart c.pieces
whole_at [] i c h at is = absurd (omega arith)
whole_at (x ∷ cs) zero c h at is = subst (λ (y : Given). (t : ℕ) → Contains y.saves t → AreApart y.pieces) (sym is) h.0
whole_at (x ∷ cs) (suc i) c h at is = whole_at cs i c h.1 (omega arith) is
