use Rattle.std.proofs.Common.{◌≡◌, ◌∙◌, sym, ap, Some, subst}
use Rattle.std.specs.FinMap.{insert}
use Rattle.ss_edge.specs.Edge.{PartlyPut, with_entry}
use Rattle.ss_edge.specs.Entries.{contents, kept_of}
use Rattle.ss_edge.proofs.Lookups.{partly-kept}
use Rattle.ss_edge.proofs.mem_shelf.MemShelfShelf.put.Goals as goal

pub returns-then-is_some-clause-partly : goal.returns-then-is_some-clause-partly
returns-then-is_some-clause-partly c =
    let kept = partly-kept c.listed_at-fails.result c.args.name.now c.args.bytes.now (Some (contents c.args.self.now.entries.items)) (sym c.is_some.ensures ∙ c.if-is_some.true) in
    let e : Some (contents c.note_put-then-is_some.new.entries.items) ≡ with_entry c.args.name.now (kept_of c.listed_at-fails.result c.args.bytes.now) (Some (contents c.args.self.now.entries.items)) =
    ap Some (c.note_put-then-is_some.ensures.contents ∙ c.in-Ok.ensures.ok ∙ ap (λ b. insert (contents c.args.self.now.entries.items) c.args.name.now b) c.kept_by-kept.ensures) in
    subst (λ x. PartlyPut c.args.name.now c.args.bytes.now (Some (contents c.args.self.now.entries.items)) x) (sym e) kept
