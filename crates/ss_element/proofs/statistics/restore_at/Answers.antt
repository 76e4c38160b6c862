use Rattle.std.proofs.Common.{◌≡◌, ℕ, zero, suc, List, [], ◌∷◌, set, Some, Ok, refl, sym, ap, ◌∙◌}
use Rattle.std.specs.Prelude.{slice_get}
use Rattle.ss_stats.specs.declared.set.Stat.{Stat}
use Rattle.ss_stats.specs.declared.set.Stat.TheVariants as stat
use Rattle.ss_wire.specs.Form.{◌>>=◌}
use Rattle.ss_element.specs.Gives.{put_at}
use Rattle.ss_element.specs.Stored.{stat_form}
use Rattle.ss_stats.specs.Set.{Entry, set_with, stat_at}
use Rattle.ss_element.proofs.statistics.restore_at.Goals as goal

-- what stands at a place is put back there under its name
put_back : (s : List Entry) (i : ℕ) (e : Entry) (t u : Stat) → slice_get s i ≡ Some e → set_with (set_with s i t) i u ≡ set s i (e.0, u)
put_back [] i e t u h = refl
put_back (x ∷ s) zero e t u h = let same : x ≡ e = cc in ap (λ (y : Entry). (y.0, u) ∷ s) same
put_back (x ∷ s) (suc i) e t u h = ap (λ l. x ∷ l) (put_back s i e t u h)

same_stat : (s : List Entry) (i : ℕ) (e : Entry) (t : Stat) → slice_get s i ≡ Some e → stat_at s i ≡ Some t → e.1 ≡ t
same_stat [] i e t h g = absurd cc
same_stat (x ∷ s) zero e t h g = let same : x ≡ e = cc in let is : x.1 ≡ t = cc in ap (λ (y : Entry). y.1) (sym same) ∙ is
same_stat (x ∷ s) (suc i) e t h g = same_stat s i e t h g

pub returns-clause-told : goal.returns-clause-told
returns-clause-told c = λ e h.
    let same = same_stat c.args.set.now c.args.index e c.replace-stat.result h c.replace-stat.ensures.before in
    let back : c.replace.new.self ≡ set c.args.set.now c.args.index (e.0, c.in_ok-stat.stat) =
    c.replace.ensures.after
    ∙ ap (λ l. set_with l c.args.index c.in_ok-stat.stat) c.replace-stat.ensures.after
    ∙ put_back c.args.set.now c.args.index e (stat.Accumulator c.new.result) c.in_ok-stat.stat h in
    ap (λ s. put_at c.args.set.now c.args.index ((stat_form s).read c.args.bytes.now >>= λ x. Ok ((e.0, x.0), x.1))) same
    ∙ ap (λ r. put_at c.args.set.now c.args.index (r >>= λ x. Ok ((e.0, x.0), x.1))) c.in_ok-stat.ensures
    ∙ ap (λ l. Ok (l, c.read_stat.new.bytes)) (sym back)
