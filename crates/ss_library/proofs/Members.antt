-- What components ask for can be run.
use Rattle.std.proofs.Common.{◌≡◌, ℕ, zero, suc, ◌<◌, ◌≤◌, length, get_or, Bool, true, false, cond, List, [], ◌∷◌, ◌++◌, map, Option, Some, None, is_some, refl, sym, ap, ◌∙◌, subst, arith}
use Rattle.std.specs.Prelude.{nat_le, slice_get}
use Rattle.std.proofs.lemmas.Bool.Decides.{nat_tests}
use Rattle.ss_safe.specs.Kept.Found.{some_same, none_some}
use Rattle.ss_graph.specs.declared.graph.Part.{Part}
use Rattle.ss_graph.specs.Checks.{Check, first_fault, or_else}
use Rattle.ss_graph.specs.declared.fault.LimitKind.TheVariants as limit
use Rattle.ss_graph.proofs.Judging.{first_fault_append, passes}
use Rattle.ss_network.specs.declared.fault.MakeFault.{MakeFault}
use Rattle.ss_network.specs.declared.fault.MakeFault.TheVariants as fault
use Rattle.ss_network.specs.declared.ask.RouterAsk.{RouterAsk}
use Rattle.ss_network.specs.Asks.{router_of}
use Rattle.ss_network.specs.Network.{ports_of as router_ports}
use Rattle.ss_network.proofs.Ranges.{router_fits, endpoint_fits, generator_fits}
use Rattle.ss_fresh.specs.Tied.{CanRun, AllCanRun}
use Rattle.ss_library.specs.declared.table.KindName.{KindName}
use Rattle.ss_library.specs.declared.table.KindName.TheVariants as kind
use Rattle.ss_library.specs.Tables.{kind_named}
use Rattle.ss_library.specs.Make.{rows_by, stats_by, rest_by, limit_check, kind_checks, stats_checks, component_checks, components_checks, member_by, member_of}
use Rattle.ss_library.proofs.Naming.{holds_by, no_fault, checked}

le-of : (a b : ℕ) → nat_le a b ≡ true → a ≤ b
le-of a b e = grind (arith, nat_tests, e)

pub can_run_by : (i : ℕ) (p : Part) (o : Option KindName) → first_fault (rows_by i p o) ≡ None → first_fault (rest_by i p o) ≡ None → CanRun (member_by p o)
unfolding first_fault
can_run_by i p None c d = tt
can_run_by i p (Some kind.Pinger) c d = tt
can_run_by i p (Some kind.Echo) c d = tt
can_run_by i p (Some kind.Ticker) c d = tt
can_run_by i p (Some kind.Router) c d =
    let h = no_fault (first_fault (stats_by i p (Some kind.Router))) (first_fault (limit_check (router_of p.params) ∷ [])) (sym (first_fault_append (stats_by i p (Some kind.Router)) (limit_check (router_of p.params) ∷ [])) ∙ d) in
    (router_fits i p.params c, le-of (router_ports (router_of p.params)) 256 (holds_by (nat_le (router_ports (router_of p.params)) 256) _ _ h.1))
can_run_by i p (Some kind.TestNic) c d = endpoint_fits i p.params c
can_run_by i p (Some kind.TrafficGen) c d = generator_fits i p.params c

-- a component that passes its checks has a kind, with its parameters and all else
pub record Passed (i : ℕ) (p : Part) : Type 0 where
  pub kind : is_some (kind_named p.kind) ≡ true
  pub rows : first_fault (rows_by i p (kind_named p.kind)) ≡ None
  pub rest : first_fault (rest_by i p (kind_named p.kind)) ≡ None

pub passed : (i : ℕ) (p : Part) → first_fault (component_checks i p) ≡ None → Passed i p
unfolding component_checks kind_checks stats_checks first_fault
passed i p c =
    let h = no_fault (first_fault (kind_checks i p)) (first_fault (stats_checks i p)) (sym (first_fault_append (kind_checks i p) (stats_checks i p)) ∙ c) in
    let k = holds_by (is_some (kind_named p.kind)) (first_fault (rows_by i p (kind_named p.kind))) _ h.0 in
    record { kind = k; rows = rows-of (is_some (kind_named p.kind)) _ _ k h.0; rest = h.1 }
  where
    rows-of : {F : Type 0} (t : Bool) (o : Option F) (f : F) → t ≡ true → (cond t o (Some f)) ≡ None → o ≡ None
    rows-of true o f e h = h
    rows-of false o f e h = absurd cc

pub passed_at : (ps : List Part) (i : ℕ) (p : Part) → first_fault (components_checks ps) ≡ None → slice_get ps i ≡ Some p → Passed i p
unfolding components_checks
passed_at ps i p c g = passed i p (checked component_checks 0 i i ps p (omega arith) c g)

pub got_map : {X Y : Type 0} (f : X → Y) (xs : List X) (k : ℕ) (y : Y) → slice_get (map f xs) k ≡ Some y → (x : X) × (slice_get xs k ≡ Some x) × (f x ≡ y)
got_map f [] k y g = absurd (none_some g)
got_map f (x ∷ xs) zero y g = (x, refl, some_same g)
got_map f (x ∷ xs) (suc k) y g = got_map f xs k y g

pub get_map : {X Y : Type 0} (f : X → Y) (xs : List X) (k : ℕ) (x : X) → slice_get xs k ≡ Some x → slice_get (map f xs) k ≡ Some (f x)
get_map f [] k x g = absurd (none_some g)
get_map f (y ∷ xs) zero x g = ap (λ z. Some (f z)) (some_same g)
get_map f (y ∷ xs) (suc k) x g = get_map f xs k x g

pub all_can_run : (ps : List Part) → first_fault (components_checks ps) ≡ None → AllCanRun (map member_of ps)
all_can_run ps c i m g =
    let p = got_map member_of ps i m g in
    let h = passed_at ps i p.0 c p.1 in
    subst CanRun p.2 (can_run_by i p.0 (kind_named p.0.kind) h.rows h.rest)

-- what was read at a place is there
pub got_at : {X : Type 0} (xs : List X) (i : ℕ) (x : X) → i < length xs → x ≡ get_or xs i x → slice_get xs i ≡ Some x
got_at [] i x l e = absurd (omega (arith, l))
got_at (y ∷ xs) zero x l e = ap Some (sym e)
got_at (y ∷ xs) (suc i) x l e = got_at xs i x (omega (arith, l)) e

-- ---- the limit on ports

over : (n : ℕ) (a b : ℕ) → a ≡ n → 256 < a → n ≡ b → nat_le b 256 ≡ false
over n a b e l f = grind (arith, nat_tests, e, l, f)

pub limit_late : (rows stats : List (Check MakeFault)) (r : RouterAsk) (n : ℕ) → first_fault rows ≡ None → first_fault stats ≡ None → n ≡ router_ports r → 256 < n → first_fault (rows ++ (stats ++ limit_check r ∷ [])) ≡ Some (fault.Limit limit.Ports n)
unfolding first_fault
limit_late rows stats r n a b e l =
    let t : nat_le (router_ports r) 256 ≡ false = over n n (router_ports r) refl l e in
    let h : first_fault (limit_check r ∷ []) ≡ Some (fault.Limit limit.Ports n) = ap (λ (u : Bool). cond u None (Some (fault.Limit limit.Ports (router_ports r)))) t ∙ ap (λ (k : ℕ). Some (fault.Limit limit.Ports k)) (sym e) in
    first_fault_append rows (stats ++ limit_check r ∷ []) ∙ ap (λ o. or_else o (first_fault (stats ++ limit_check r ∷ []))) a ∙ first_fault_append stats (limit_check r ∷ []) ∙ ap (λ o. or_else o (first_fault (limit_check r ∷ []))) b ∙ h

pub limit_none : (rows stats : List (Check MakeFault)) (r : RouterAsk) (n : ℕ) → first_fault rows ≡ None → first_fault stats ≡ None → n ≡ router_ports r → n ≤ 256 → first_fault (rows ++ (stats ++ limit_check r ∷ [])) ≡ None
unfolding first_fault
limit_none rows stats r n a b e l =
    let t : nat_le (router_ports r) 256 ≡ true = grind (arith, nat_tests, e, l) in
    let h : first_fault (limit_check r ∷ []) ≡ None = ap (λ (u : Bool). cond u None (Some (fault.Limit limit.Ports (router_ports r)))) t in
    passes rows (stats ++ limit_check r ∷ []) a (passes stats (limit_check r ∷ []) b h)
