use Rattle.std.proofs.Common.{refl, ◌∙◌, ap, ◌++◌, map, reverse}
use Rattle.ss_edge.specs.Entries.{pair_of, raw_of, reads_of, puts_of}
use Rattle.ss_edge.proofs.Lookups.{pairs-push, moved, look-push-zero}
use Rattle.ss_edge.proofs.mem_shelf.MemShelf.new.Goals as goal

pub loop-name-preserved : goal.loop-name-preserved
loop-name-preserved c =
    record {
      pairs = ap (λ t. map pair_of t ++ map raw_of (reverse c.pop.new.self.items)) c.in_ok-push.ensures.items
          ∙ pairs-push c.loop-name.list.items (record { name = c.in-Some.name; bytes = c.in-Some.bytes; read_faults = 0; put_faults = 0 }) (map raw_of (reverse c.pop.new.self.items))
          ∙ ap (λ t. map pair_of c.loop-name.list.items ++ t) (moved raw_of c.loop-name.rest.items c.pop.new.self.items (c.in-Some.name, c.in-Some.bytes) c.in-Some.ensures.items)
          ∙ c.loop-name.invariant.pairs;
      reads = λ name. ap (λ t. reads_of 0 t name) c.in_ok-push.ensures.items ∙ look-push-zero (λ e. e.read_faults) c.loop-name.list.items (record { name = c.in-Some.name; bytes = c.in-Some.bytes; read_faults = 0; put_faults = 0 }) refl c.loop-name.invariant.reads name;
      puts = λ name. ap (λ t. puts_of 0 t name) c.in_ok-push.ensures.items ∙ look-push-zero (λ e. e.put_faults) c.loop-name.list.items (record { name = c.in-Some.name; bytes = c.in-Some.bytes; read_faults = 0; put_faults = 0 }) refl c.loop-name.invariant.puts name;
    }
