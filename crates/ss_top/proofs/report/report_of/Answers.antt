use Rattle.std.proofs.Common.{◌≡◌, ℕ, List, length, ◌++◌, arith, sym, ap, ◌∙◌, subst}
use Rattle.ss_run.specs.declared.RunSpec.{RunSpec}
use Rattle.ss_run.specs.Run.{IsFitting}
use Rattle.ss_library.specs.Kinds.{any_kind}
use Rattle.ss_library.specs.Meaning.{any_meaning}
use Rattle.ss_top.specs.Report.{Lists, ListsAll, windows_line}
use Rattle.ss_top.proofs.Reporting.{lists_all-none, lists_all-more}
use Rattle.ss_top.proofs.Running.{stands, stands_self}
use Rattle.ss_top.proofs.report.report_of.Goals as goal

pub loop-giver-init : goal.loop-giver-init
loop-giver-init c =
    let begun : c.push_windows.new.text.items ≡ windows_line c.args.windows = c.in_ok-push_windows.ensures ∙ ap (λ (t : List ℕ). t ++ windows_line c.args.windows) c.new-text.ensures.items in
    subst (λ (t : List ℕ). ListsAll c.args.run.now c.args.windows 0 (windows_line c.args.windows) t) (sym begun) (lists_all-none c.args.run.now c.args.windows (windows_line c.args.windows))

pub push_giver-requires-clause-fitting : goal.push_giver-requires-clause-fitting
push_giver-requires-clause-fitting c =
    let s = stands c.args.run.now c.args.windows c.args.workers.now c.loop-giver.giver c.index-workers-giver.result c.requires.stand c.loop-giver-test.true c.index-workers-giver.is in
    subst (λ (r : RunSpec). IsFitting any_kind any_meaning r) (sym s.run) c.requires.fitting

pub push_giver-requires-clause-parts : goal.push_giver-requires-clause-parts
push_giver-requires-clause-parts c =
    let s = stands c.args.run.now c.args.windows c.args.workers.now c.loop-giver.giver c.index-workers-giver.result c.requires.stand c.loop-giver-test.true c.index-workers-giver.is in
    ap (λ (r : RunSpec). r.partition.parts) s.run ∙ sym c.requires.stand.count

pub push_giver-requires-clause-stands : goal.push_giver-requires-clause-stands
push_giver-requires-clause-stands c =
    stands_self c.args.run.now c.loop-giver.giver c.args.windows c.index-workers-giver.result
    (stands c.args.run.now c.args.windows c.args.workers.now c.loop-giver.giver c.index-workers-giver.result c.requires.stand c.loop-giver-test.true c.index-workers-giver.is)

pub loop-giver-preserved : goal.loop-giver-preserved
loop-giver-preserved c =
    let s = stands c.args.run.now c.args.windows c.args.workers.now c.loop-giver.giver c.index-workers-giver.result c.requires.stand c.loop-giver-test.true c.index-workers-giver.is in
    lists_all-more c.args.run.now c.args.windows c.loop-giver.giver (windows_line c.args.windows) c.loop-giver.text.items c.push_giver.new.text.items
    (subst (λ n. Lists c.args.run.now c.args.windows c.loop-giver.giver n c.loop-giver.text.items c.push_giver.new.text.items) c.requires.stand.count
    (subst (λ (r : RunSpec). Lists r c.args.windows c.loop-giver.giver (length c.args.workers.now) c.loop-giver.text.items c.push_giver.new.text.items) s.run c.in_ok-push_giver.ensures))
    c.loop-giver.invariant

pub returns : goal.returns
returns c =
    let all : c.loop-giver.giver ≡ c.args.run.now.partition.parts = omega (arith, c.loop-giver-test.false, c.loop-giver.auto.giver-end, c.requires.stand.count) in
    let l : ListsAll c.args.run.now c.args.windows c.args.run.now.partition.parts (windows_line c.args.windows) c.loop-giver.text.items = subst (λ n. ListsAll c.args.run.now c.args.windows n (windows_line c.args.windows) c.loop-giver.text.items) all c.loop-giver.invariant in
    record { windows = c.args.windows; has = c.requires.windows; sent = l.sent; each = l.each; is = l.is }
