use Rattle.std.proofs.Common.{◌≡◌, ◌+◌, ℕ, suc, List, None, Err, [], ◌∷◌, map, get_or, ◌∙◌, arith, rules}
use Rattle.std.proofs.lemmas.List.{get_or_default}
use Rattle.std.proofs.lemmas.List.Concat.{flat_map_single}
use Rattle.std.proofs.lemmas.List.Elements.{Contains-get_or}
use Rattle.ss_piece.specs.Pieces.{Slip, slip}
use Rattle.ss_top.specs.Doing.{Act, saves}
use Rattle.ss_top.specs.Headline.{Counted, seen}
use Rattle.ss_top.proofs.Onward.{count_next, item_done, item_stops, items_done}
use Rattle.ss_top.proofs.Saving.{few_before}
use Rattle.ss_top.proofs.doing.put_saves.Goals as goal

abbrev one_save : List Slip → ℕ → List Act
one_save ps t = saves t ps ∷ []

pub put_save-requires-clause-apart : goal.put_save-requires-clause-apart
put_save-requires-clause-apart g c = c.requires.whole (get_or c.args.times.now c.loop-time.time-index 0) (Contains-get_or c.args.times.now c.loop-time.time-index 0 c.loop-time-test.true)

pub returns-in_err-put_save-clause-does : goal.returns-in_err-put_save-clause-does
returns-in_err-put_save-clause-does g c = λ taken faults.
    let refused : c.from_residual.result ≡ Err c.in_err-put_save.field-0.0 = search rules in
    let times = c.args.times.now in
    let i = c.loop-time.time-index in
    let counted : Counted (seen (g.V.Shelf.held c.loop-time.shelf) (g.V.Shelf.read_faults c.loop-time.shelf) (g.V.Shelf.put_faults c.loop-time.shelf) taken faults (g.R.Sink.taken c.loop-time.err) (g.R.Sink.faults c.loop-time.err)) (seen (g.V.Shelf.held c.put_save.new.shelf) (g.V.Shelf.read_faults c.put_save.new.shelf) (g.V.Shelf.put_faults c.put_save.new.shelf) taken faults (g.R.Sink.taken c.put_save.new.err) (g.R.Sink.faults c.put_save.new.err))
    = record { reads = c.in_err-put_save.ensures.reads; puts = c.in_err-put_save.ensures.puts; out = omega arith; err = c.in_err-put_save.ensures.err_faults } in
    item_stops c.args.prefix.now c.args.graph.now c.args.count (one_save (map slip c.args.pieces.now)) times i (get_or times i 0) c.loop-time-test.true (get_or_default times i 0 (get_or times i 0) c.loop-time-test.true) c.loop-time.count c.loop-time.invariant.count
    _ _ _ (c.loop-time.invariant.so_far taken faults) counted (map (λ t. saves t (map slip c.args.pieces.now)) times) (flat_map_single (λ t. saves t (map slip c.args.pieces.now)) times) c.in_err-put_save.field-0.0 c.from_residual.result refused (c.in_err-put_save.ensures.does taken faults)

pub returns-in_err-put_save-clause-reads : goal.returns-in_err-put_save-clause-reads
returns-in_err-put_save-clause-reads g c = λ n. let a = (c.loop-time.invariant.so_far None 0).counted.reads n in let b = c.in_err-put_save.ensures.reads n in omega (arith, a, b)

pub returns-in_err-put_save-clause-puts : goal.returns-in_err-put_save-clause-puts
returns-in_err-put_save-clause-puts g c = λ n. let a = (c.loop-time.invariant.so_far None 0).counted.puts n in let b = c.in_err-put_save.ensures.puts n in omega (arith, a, b)

pub returns-in_err-put_save-clause-err_faults : goal.returns-in_err-put_save-clause-err_faults
returns-in_err-put_save-clause-err_faults g c = let a = (c.loop-time.invariant.so_far None 0).counted.err in let b = c.in_err-put_save.ensures.err_faults in omega (arith, a, b)

pub loop-time-preserved : goal.loop-time-preserved
loop-time-preserved g c =
    let times = c.args.times.now in
    let i = c.loop-time.time-index in
    let one_more : c.loop-time.count + 1 ≡ suc c.loop-time.count = omega arith in
    record {
      so_far = λ taken faults.
          item_done c.args.prefix.now c.args.graph.now c.args.count (one_save (map slip c.args.pieces.now)) times i (get_or times i 0) c.loop-time-test.true (get_or_default times i 0 (get_or times i 0) c.loop-time-test.true) c.loop-time.count c.loop-time.invariant.count
          _ _ _ (c.loop-time.invariant.so_far taken faults) (record { reads = c.in_ok-put_save.ensures.reads; puts = c.in_ok-put_save.ensures.puts; out = omega arith; err = c.in_ok-put_save.ensures.err_faults }) c.in_ok-put_save.field-0 (c.in_ok-put_save.ensures.does taken faults);
      count = one_more ∙ count_next c.args.prefix.now c.args.graph.now c.args.count (one_save (map slip c.args.pieces.now)) times i (get_or times i 0) c.loop-time-test.true (get_or_default times i 0 (get_or times i 0) c.loop-time-test.true) c.loop-time.count c.loop-time.invariant.count;
      most = let few = few_before c.args.prefix.now c.args.graph.now c.loop-time.count (get_or times i 0) (map slip c.args.pieces.now) (c.in_ok-put_save.ensures.does None 0).1 in omega (arith, few);
    }

pub returns-clause-does : goal.returns-clause-does
returns-clause-does g c = λ taken faults.
    items_done c.args.prefix.now c.args.graph.now c.args.count (one_save (map slip c.args.pieces.now)) c.args.times.now c.loop-time.time-index (map (λ t. saves t (map slip c.args.pieces.now)) c.args.times.now) _ _ tt
    c.loop-time-test.false (flat_map_single (λ t. saves t (map slip c.args.pieces.now)) c.args.times.now) (c.loop-time.invariant.so_far taken faults)

pub returns-clause-reads : goal.returns-clause-reads
returns-clause-reads g c = (c.loop-time.invariant.so_far None 0).counted.reads

pub returns-clause-puts : goal.returns-clause-puts
returns-clause-puts g c = (c.loop-time.invariant.so_far None 0).counted.puts

pub returns-clause-err_faults : goal.returns-clause-err_faults
returns-clause-err_faults g c = (c.loop-time.invariant.so_far None 0).counted.err
