use Rattle.std.proofs.Common.{◌≡◌, ℕ, zero, suc, ◌+◌, List, [], ◌∷◌, ◌++◌, Some, sym, ap, ◌∙◌, take, append_assoc, append-nil, arith}
use Rattle.std.proofs.lemmas.List.Concat.{flat_map-cons}
use Rattle.ss_stats.specs.declared.set.Stat.{Stat}
use Rattle.ss_stats.specs.Set.{Entry, stat_at}
use Rattle.ss_element.specs.Stored.{stats_text, stat_text, entry_text}
use Rattle.ss_element.proofs.statistics.save_stats.Goals as goal

-- the text of one statistic more
more_text : (set : List Entry) (i : ℕ) (s : Stat) → stat_at set i ≡ Some s → stats_text (take (suc i) set) ≡ stats_text (take i set) ++ stat_text s
more_text [] i s h = absurd cc
more_text (e ∷ set) zero s h = let same : e.1 ≡ s = cc in flat_map-cons entry_text e [] ∙ append-nil (stat_text e.1) ∙ ap stat_text same
more_text (e ∷ set) (suc i) s h =
    flat_map-cons entry_text e (take (suc i) set)
    ∙ ap (λ l. entry_text e ++ l) (more_text set i s h)
    ∙ sym (append_assoc (entry_text e) (stats_text (take i set)) (stat_text s))
    ∙ ap (λ l. l ++ stat_text s) (sym (flat_map-cons entry_text e (take i set)))

pub loop-index-preserved : goal.loop-index-preserved
loop-index-preserved c =
    let i = c.loop-index.index in
    let set = c.args.set.now in
    c.in_ok-save_stat.ensures
    ∙ ap (λ l. l ++ stat_text c.stat.result.now) c.loop-index.invariant
    ∙ append_assoc c.args.out.now (stats_text (take i set)) (stat_text c.stat.result.now)
    ∙ ap (λ l. c.args.out.now ++ l) (sym (more_text set i c.stat.result.now c.stat.ensures))
    ∙ ap (λ n. c.args.out.now ++ stats_text (take n set)) {x = suc i} {y = i + 1} (omega arith)
