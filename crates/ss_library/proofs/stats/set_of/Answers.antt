use Rattle.std.proofs.Common.{◌≡◌, ◌+◌, ◌<◌, ◌≤◌, ◌++◌, ◌∷◌, [], List, ℕ, Some, length, take, get_or, refl, ap, sym, ◌∙◌}
use Rattle.std.proofs.lemmas.Result.{err_from_is_err_and}
use Rattle.std.proofs.lemmas.List.{map_more, take_all}
use Rattle.ss_stats.specs.declared.set.Stat.{Stat}
use Rattle.ss_stats.specs.Set.{Entry}
use Rattle.ss_graph.specs.declared.graph.StatAsk.{StatAsk}
use Rattle.ss_graph.specs.Checks.{Check}
use Rattle.ss_network.specs.declared.fault.MakeFault.{MakeFault}
use Rattle.ss_library.specs.declared.table.KindName.{KindName}
use Rattle.ss_library.specs.Stats.{empty_stat, empty_stats}
use Rattle.ss_network.specs.Faults.{is_memory}
use Rattle.ss_library.specs.Make.{stat_check, stats_by}
use Rattle.ss_library.proofs.Numbered.{numbered_passed, numbered_fails, numbered_done}
use Rattle.ss_library.proofs.stats.set_of.Goals as goal

abbrev checks : KindName → List StatAsk → ℕ → ℕ → StatAsk → List (Check MakeFault)
checks k asks i j a = stat_check (Some k) asks i j a ∷ []

pushed : (xs : List StatAsk) (i : ℕ) (x : StatAsk) (set new : List Entry) (name : List ℕ) (s : Stat) → i < length xs → x ≡ get_or xs i x → set ≡ empty_stats (take i xs) → name ≡ x.name → s ≡ empty_stat x → new ≡ set ++ (name, s) ∷ [] → new ≡ empty_stats (take (i + 1) xs)
pushed xs i x set new name s h is p q r e =
    let m = map_more (λ a. (a.name, empty_stat a)) xs i x h in
    e ∙ rw (p, q, r) (sym (m ∙ ap (λ y. empty_stats (take i xs) ++ (y.name, empty_stat y) ∷ []) (sym is)))

pub returns-in_err-stat : goal.returns-in_err-stat
unfolding stats_by
returns-in_err-stat c =
    let p = err_from_is_err_and c.from_residual.result c.from_residual.ensures.1 in
    let e = c.as_slice-ask-items.ensures in
    let xs = c.args.part.now.stats in
    let i = c.loop-item.item in
    let x = c.ask-item.result in
    let within : i < length xs = rw (← e) c.loop-item-test.true in
    let is : x ≡ get_or xs i x = rw (← e) c.ask-item.is in
    rw (p.1, p.2, c.loop-item.invariant.checked) (numbered_fails (checks c.args.kind xs c.args.index) is_memory _ xs i x within is c.in_err-stat.ensures)

pub loop-item-preserved : goal.loop-item-preserved
loop-item-preserved c =
    let e = c.as_slice-ask-items.ensures in
    let xs = c.args.part.now.stats in
    let i = c.loop-item.item in
    let x = c.ask-item.result in
    let within : i < length xs = rw (← e) c.loop-item-test.true in
    let is : x ≡ get_or xs i x = rw (← e) c.ask-item.is in
    record {
      checked = c.loop-item.invariant.checked ∙ numbered_passed (checks c.args.kind xs c.args.index) xs i x within is c.in_ok-stat.ensures.0;
      so_far = pushed xs i x c.loop-item.stats _ _ _ within is c.loop-item.invariant.so_far (rw (c.as_bytes.ensures.value, c.as_str.ensures) refl) c.in_ok-stat.ensures.1 c.in_ok-push.ensures.ok;
    }

pub returns : goal.returns
unfolding stats_by
returns c =
    let e = c.as_slice-ask-items.ensures in
    let xs = c.args.part.now.stats in
    let past : length xs ≤ c.loop-item.item = rw (← e) c.loop-item-test.false in
    (c.loop-item.invariant.checked ∙ numbered_done (checks c.args.kind xs c.args.index) xs c.loop-item.item past, c.loop-item.invariant.so_far ∙ ap empty_stats (take_all c.loop-item.item xs past))
