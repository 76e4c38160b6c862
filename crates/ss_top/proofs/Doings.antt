-- What is done with a run's cuts is what the run prints and puts, up to its limit.
use Rattle.std.proofs.Common.{◌≡◌, ℕ, suc, List, [], ◌∷◌, ◌++◌, map, length, flat_map, Option, Some, None, refl, ap, sym, ◌∙◌, subst, append_assoc, append-nil}
use Rattle.std.proofs.lemmas.List.{map-append}
use Rattle.ss_model.specs.declared.Line.{Line}
use Rattle.ss_model.specs.End.{text_of, final_line}
use Rattle.ss_graph.specs.declared.graph.Graph.{Graph}
use Rattle.ss_graph.specs.declared.fault.LimitKind.{LimitKind}
use Rattle.ss_piece.specs.Pieces.{Slip}
use Rattle.ss_compose.specs.Compose.{composed}
use Rattle.ss_join.specs.Cutting.{Given}
use Rattle.ss_course.specs.Kept.{Kept, passed}
use Rattle.ss_printed.specs.Printed.{allowed, allowed_by, kept_at, kept_in, left_over, rest_in, stop, stop_by}
use Rattle.ss_top.specs.Answer.{Step, write, put, put_of, ran, save_name, steps_of}
use Rattle.ss_top.specs.Doing.{Act, Doing, acts_in, closing, doing, nothing, printing, saves, saving_unless}

abbrev writes : List Line → List Step
writes ls = map write (map text_of ls)

pub writes-append : (ls ms : List Line) → writes (ls ++ ms) ≡ writes ls ++ writes ms
writes-append ls ms = ap (map write) (map-append text_of ls ms) ∙ map-append write (map text_of ls) (map text_of ms)

-- all checkpoints were put, and the lines behind them written
pub record AreDone (prefix : List ℕ) (ks : List Kept) (rest : List Line) (d : Doing) : Type 0 where
  pub steps : d.steps ≡ flat_map (steps_of prefix) ks ++ writes rest
  pub kept : d.kept ≡ map (λ k. k.bytes) ks
  pub stop : d.stop ≡ None

-- those before the one that passes a limit, and the lines before that
pub record IsCutShort (prefix : List ℕ) (ks : List Kept) (rest : List Line) (l : LimitKind × ℕ) (d : Doing) : Type 0 where
  pub steps : d.steps ≡ flat_map (steps_of prefix) ks ++ writes rest
  pub stop : d.stop ≡ Some l

-- behind lines that were carried here
abbrev after_lines : List Line → Doing → Doing
after_lines carried d = record { steps = writes carried ++ d.steps; kept = d.kept; stop = d.stop }

module _ (prefix : List ℕ) (g : Graph) where
  abbrev Fits : Option (Kept × (LimitKind × ℕ)) → ℕ → List Kept → List Line → Doing → Type 0
  Fits None count ks rest d = AreDone prefix ks rest d
  Fits (Some x) count ks rest d = IsCutShort prefix (allowed count ks) x.0.lines x.1 d

  -- one checkpoint more in front
  one_more : (k : Kept) (carried : List Line) (count : ℕ) (ks : List Kept) (rest : List Line) (d : Doing) → k.lines ≡ carried → passed count (length k.bytes) ≡ None → (o : Option (Kept × (LimitKind × ℕ))) → Fits o (suc count) ks rest (after_lines [] d)
      → Fits o count (k ∷ ks) rest (after_lines carried (record { steps = put (save_name prefix k.time) k.bytes ∷ d.steps; kept = k.bytes ∷ d.kept; stop = d.stop }))
  one_more k carried count ks rest d same n None h = record {
    steps = ap (λ ls. writes ls ++ put (save_name prefix k.time) k.bytes ∷ d.steps) (sym same) ∙ ap (λ xs. writes k.lines ++ put (save_name prefix k.time) k.bytes ∷ xs) h.steps
        ∙ sym (ap (λ xs. xs ++ writes rest) (append_assoc (writes k.lines) (put (save_name prefix k.time) k.bytes ∷ []) (flat_map (steps_of prefix) ks)) ∙ append_assoc (writes k.lines) (put (save_name prefix k.time) k.bytes ∷ flat_map (steps_of prefix) ks) (writes rest));
    kept = ap (λ l. k.bytes ∷ l) h.kept;
    stop = h.stop;
  }
  one_more k carried count ks rest d same n (Some x) h = record {
    steps = ap (λ ls. writes ls ++ put (save_name prefix k.time) k.bytes ∷ d.steps) (sym same) ∙ ap (λ xs. writes k.lines ++ put (save_name prefix k.time) k.bytes ∷ xs) h.steps
        ∙ sym (ap (λ xs. xs ++ writes x.0.lines) (append_assoc (writes k.lines) (put (save_name prefix k.time) k.bytes ∷ []) (flat_map (steps_of prefix) (allowed (suc count) ks))) ∙ append_assoc (writes k.lines) (put (save_name prefix k.time) k.bytes ∷ flat_map (steps_of prefix) (allowed (suc count) ks)) (writes x.0.lines))
        ∙ ap (λ (o : Option (LimitKind × ℕ)). flat_map (steps_of prefix) (allowed_by o k (allowed (suc count) ks)) ++ writes x.0.lines) (sym n);
    stop = h.stop;
  }

  -- a checkpoint that passes a limit
  passes : (k : Kept) (carried : List Line) (count : ℕ) (ks : List Kept) (rest : List Line) (l : LimitKind × ℕ) → k.lines ≡ carried → passed count (length k.bytes) ≡ Some l → Fits (Some (k, l)) count (k ∷ ks) rest (after_lines carried (nothing (Some l)))
  passes k carried count ks rest l same e = record {
    steps = append-nil (writes carried) ∙ ap writes (sym same) ∙ ap (λ (o : Option (LimitKind × ℕ)). flat_map (steps_of prefix) (allowed_by o k (allowed (suc count) ks)) ++ writes k.lines) (sym e);
    stop = refl;
  }

  abbrev IsDoing : ℕ → List Kept → List Line → Doing → Type 0
  IsDoing count ks rest d = Fits (stop count ks) count ks rest d

  abbrev done_by : ℕ → List Act → Doing
  done_by count acts = doing prefix g count acts

  left-nothing : (ts : List ℕ) → left_over [] ts ≡ []
  left-nothing [] = refl
  left-nothing (t ∷ ts) = refl

  module _ (ps : List Slip) (cs : List Given) (acts : List Act) (behind : (count : ℕ) (carried : List Line) → IsDoing count (kept_in g carried cs) (rest_in carried cs) (after_lines carried (done_by count acts))) where
    abbrev kept_from : List Line → List ℕ → List Kept
    kept_from carried ts = kept_at g ps carried ts ++ kept_in g (left_over carried ts) cs

    abbrev rest_from : List Line → List ℕ → List Line
    rest_from carried ts = rest_in (left_over carried ts) cs

    -- one time of a cut, and what comes behind it
    saves_first : (t : ℕ) (ts : List ℕ) (count : ℕ) (carried : List Line) → IsDoing (suc count) (kept_from [] ts) (rest_from [] ts) (after_lines [] (done_by (suc count) (map (λ u. saves u ps) ts ++ acts)))
        → IsDoing count (kept_from carried (t ∷ ts)) (rest_from carried (t ∷ ts)) (after_lines carried (done_by count (map (λ u. saves u ps) (t ∷ ts) ++ acts)))
    saves_first t ts count carried h = by (passed count (length (composed g t ps))) refl
      where
        k : Kept
        k = record { time = t; lines = carried; bytes = composed g t ps }

        tail : List Kept
        tail = kept_at g ps [] ts ++ kept_in g [] cs

        d : Doing
        d = done_by (suc count) (map (λ u. saves u ps) ts ++ acts)

        then : IsDoing (suc count) tail (rest_in [] cs) (after_lines [] d)
        then = subst (λ (ls : List Line). IsDoing (suc count) (kept_at g ps [] ts ++ kept_in g ls cs) (rest_in ls cs) (after_lines [] d)) (left-nothing ts) h

        by : (o : Option (LimitKind × ℕ)) → passed count (length (composed g t ps)) ≡ o → IsDoing count (k ∷ tail) (rest_in [] cs) (after_lines carried (saving_unless (passed count (length (composed g t ps))) (save_name prefix t) (composed g t ps) d))
        by None e =
            subst (λ (p : Option (LimitKind × ℕ)). Fits (stop_by p k (stop (suc count) tail)) count (k ∷ tail) (rest_in [] cs) (after_lines carried (saving_unless p (save_name prefix t) (composed g t ps) d))) (sym e)
            (one_more k carried count tail (rest_in [] cs) d refl e (stop (suc count) tail) then)
        by (Some l) e =
            subst (λ (p : Option (LimitKind × ℕ)). Fits (stop_by p k (stop (suc count) tail)) count (k ∷ tail) (rest_in [] cs) (after_lines carried (saving_unless p (save_name prefix t) (composed g t ps) d))) (sym e)
            (passes k carried count tail (rest_in [] cs) l refl e)

    -- the times of one cut
    at_saves : (ts : List ℕ) (count : ℕ) (carried : List Line) → IsDoing count (kept_from carried ts) (rest_from carried ts) (after_lines carried (done_by count (map (λ t. saves t ps) ts ++ acts)))
    at_saves [] count carried = behind count carried
    at_saves (t ∷ ts) count carried = saves_first t ts count carried (at_saves ts (suc count) [])

  -- lines that are printed are carried on
  carries : (ls carried : List Line) (d : Doing) → after_lines (carried ++ ls) d ≡ after_lines carried (printing ls d)
  carries ls carried d = ap (λ xs. record { steps = xs; kept = d.kept; stop = d.stop }) (ap (λ xs. xs ++ d.steps) (writes-append carried ls) ∙ append_assoc (writes carried) (writes ls) d.steps)

  at_cuts : (cuts : List Given) (count : ℕ) (carried : List Line) → IsDoing count (kept_in g carried cuts) (rest_in carried cuts) (after_lines carried (done_by count (acts_in cuts)))
  at_cuts [] count carried = record { steps = append-nil (writes carried); kept = refl; stop = refl }
  at_cuts (c ∷ cs) count carried =
      subst (λ (d : Doing). IsDoing count (kept_in g carried (c ∷ cs)) (rest_in carried (c ∷ cs)) d) (carries c.lines carried (done_by count (map (λ t. saves t c.pieces) c.saves ++ acts_in cs)))
      (at_saves c.pieces cs (acts_in cs) (at_cuts cs) c.saves count (carried ++ c.lines))

  pub cuts_done : (cuts : List Given) → stop 0 (kept_in g [] cuts) ≡ None → AreDone prefix (kept_in g [] cuts) (rest_in [] cuts) (done_by 0 (acts_in cuts))
  cuts_done cuts e = subst (λ (o : Option (Kept × (LimitKind × ℕ))). Fits o 0 (kept_in g [] cuts) (rest_in [] cuts) (done_by 0 (acts_in cuts))) e (at_cuts cuts 0 [])

  pub cuts_cut_short : (cuts : List Given) (next : Kept) (l : LimitKind × ℕ) → stop 0 (kept_in g [] cuts) ≡ Some (next, l) → IsCutShort prefix (allowed 0 (kept_in g [] cuts)) next.lines l (done_by 0 (acts_in cuts))
  cuts_cut_short cuts next l e = subst (λ (o : Option (Kept × (LimitKind × ℕ))). Fits o 0 (kept_in g [] cuts) (rest_in [] cuts) (done_by 0 (acts_in cuts))) e (at_cuts cuts 0 [])

-- the steps of a run that comes to its end
pub ran_steps : (prefix : List ℕ) (ks : List Kept) (rest : List Line) (time : ℕ) (puts : List (List ℕ × List ℕ)) (steps : List Step) → steps ≡ flat_map (steps_of prefix) ks ++ writes rest → steps ++ (closing time puts).steps ≡ (ran prefix ks rest time puts).steps
ran_steps prefix ks rest time puts steps e =
    ap (λ xs. xs ++ (closing time puts).steps) e ∙ append_assoc (flat_map (steps_of prefix) ks) (writes rest) (closing time puts).steps
    ∙ ap (λ xs. flat_map (steps_of prefix) ks ++ xs) (sym (ap (λ ts. map write ts ++ map put_of puts) {x = map text_of rest ++ final_line time ∷ []} {y = map text_of rest ++ final_line time ∷ []} refl ∙ ap (λ xs. xs ++ map put_of puts) (map-append write (map text_of rest) (final_line time ∷ [])) ∙ append_assoc (writes rest) (write (final_line time) ∷ []) (map put_of puts)))
