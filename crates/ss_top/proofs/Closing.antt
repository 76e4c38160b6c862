-- How all that a run came to is done, and how that ends.
use Rattle.std.proofs.Common.{◌≡◌, ℕ, List, Result, Ok, Err, sym, subst}
use Rattle.ss_graph.specs.declared.graph.Graph.{Graph}
use Rattle.ss_join.specs.Cutting.{Given}
use Rattle.ss_top.specs.Headline.{Seen, Counted}
use Rattle.ss_top.specs.Doing.{Does, acts_in, closing, doing}
use Rattle.ss_top.specs.Simulate.{closing_by, cuts_by, doing_by, puts_by}
use Rattle.ss_top.specs.declared.doing.Stop.{Stop}
use Rattle.ss_top.specs.declared.printed.End.{End}
use Rattle.ss_top.specs.declared.printed.Printed.{Printed}
use Rattle.ss_top.specs.declared.sheets.Sheet.{Sheet}
use Rattle.ss_top.proofs.Onward.{does_next, does_first}

-- what was done of cuts, as it is named otherwise
module _ (p : Printed) (prefix : List ℕ) (g h : Graph) (cuts : List Given) (named : prefix ≡ p.prefix) (of : g ≡ h) (all : cuts ≡ cuts_by p) (old : Seen) where
  done_as : (mid : Seen) (r : Result (Unit {0}) Stop) → Does (doing prefix g 0 (acts_in cuts)) old mid r → Does (doing p.prefix h 0 (acts_in (cuts_by p))) old mid r
  done_as mid r k =
      subst (λ (x : List ℕ). Does (doing x h 0 (acts_in (cuts_by p))) old mid r) named
      (subst (λ (x : Graph). Does (doing prefix x 0 (acts_in (cuts_by p))) old mid r) of
      (subst (λ (x : List Given). Does (doing prefix g 0 (acts_in x)) old mid r) all k))

  pub cuts_end : (new : Seen) (e : Stop) (r : Result (Unit {0}) Stop) → r ≡ Err e → Does (doing prefix g 0 (acts_in cuts)) old new (Err e) → Does (doing_by h p) old new r
  cuts_end new e r why k =
      subst (λ (r : Result (Unit {0}) Stop). Does (doing_by h p) old new r) (sym why)
      (does_first (doing p.prefix h 0 (acts_in (cuts_by p))) (closing_by p.end) old new e (done_as new (Err e) k))

  pub cuts_then : (mid new : Seen) (u : Unit {0}) → Does (doing prefix g 0 (acts_in cuts)) old mid (Ok u) → Counted old mid → Counted mid new → (e : End) → p.end ≡ e → (r : Result (Unit {0}) Stop) → Does (closing_by e) mid new r → Does (doing_by h p) old new r
  cuts_then mid new u k before behind e is r l =
      let all : Does (doing p.prefix h 0 (acts_in (cuts_by p))) old mid (Ok u) = done_as mid (Ok u) k in
      does_next (doing p.prefix h 0 (acts_in (cuts_by p))) (closing_by p.end) old mid new all.0 before behind r all.1
      (subst (λ (x : End). Does (closing_by x) mid new r) (sym is) l)

pub closing_as : (time : ℕ) (ss sheets : List Sheet) (old new : Seen) (r : Result (Unit {0}) Stop) → ss ≡ sheets → Does (closing time (puts_by ss)) old new r → Does (closing time (puts_by sheets)) old new r
closing_as time ss sheets old new r e k = subst (λ (x : List Sheet). Does (closing time (puts_by x)) old new r) e k
