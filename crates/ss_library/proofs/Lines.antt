-- The lines of links.
use Rattle.std.proofs.Common.{◌≡◌, ℕ, ◌+◌, ◌*◌, ◌/◌, ◌%◌, ◌≤◌, List, [], ◌∷◌, ◌++◌, length, Option, Some, None, refl, ap, ◌∙◌, subst, arith, append_assoc}
use Rattle.std.specs.Prelude.{slice_get, codes}
use Rattle.ss_graph.specs.declared.graph.Graph.{Graph}
use Rattle.ss_graph.specs.declared.graph.Join.{Join}
use Rattle.ss_graph.specs.Links.{line_latency}
use Rattle.ss_graph.specs.Fit.{lat, lat_by}
use Rattle.ss_model.specs.declared.LinkLine.{LinkLine}
use Rattle.ss_model.specs.declared.InnerLine.{InnerLine}
use Rattle.ss_model.specs.Wiring.{Wiring}
use Rattle.ss_graph.specs.declared.graph.Part.{Part}
use Rattle.ss_library.specs.declared.table.KindName.{KindName}
use Rattle.ss_library.specs.declared.table.KindName.TheVariants as kind
use Rattle.ss_library.specs.Tables.{kind_named}
use Rattle.ss_graph.specs.Checks.{first_fault, Fails}
use Rattle.ss_graph.proofs.Judging.{passes, fails_front, fails_behind}
use Rattle.ss_network.specs.declared.fault.MakeFault.{MakeFault}
use Rattle.ss_network.specs.Faults.{is_memory}
use Rattle.ss_library.specs.Make.{each_numbered, port_check, protocol_check, link_checks, lines_of, inner_of, inner_by}
use Rattle.ss_library.proofs.Numbered.{numbered_length}

pub onward : (g : Graph) (i : ℕ) (j : Join) → slice_get g.links i ≡ Some j → lat g (2 * i) ≡ line_latency g.components j.left j.right
onward g i j h =
    let a : (2 * i) / 2 ≡ i = omega arith in
    let b : (2 * i) % 2 ≡ 0 = omega arith in
    ap (λ n. lat_by g.components (slice_get g.links n) ((2 * i) % 2)) a ∙ (ap (λ n. lat_by g.components (slice_get g.links i) n) b ∙ ap (λ o. lat_by g.components o 0) h)

pub back : (g : Graph) (i : ℕ) (j : Join) → slice_get g.links i ≡ Some j → lat g (2 * i + 1) ≡ line_latency g.components j.right j.left
back g i j h =
    let a : (2 * i + 1) / 2 ≡ i = omega arith in
    let b : (2 * i + 1) % 2 ≡ 1 = omega arith in
    ap (λ n. lat_by g.components (slice_get g.links n) ((2 * i + 1) % 2)) a ∙ (ap (λ n. lat_by g.components (slice_get g.links i) n) b ∙ ap (λ o. lat_by g.components o 1) h)

pub two_more : {X : Type 0} (xs : List X) (x y : X) → (xs ++ x ∷ []) ++ y ∷ [] ≡ xs ++ x ∷ y ∷ []
two_more xs x y = append_assoc xs (x ∷ []) (y ∷ [])

pub lines_count : (ps : List Part) (js : List Join) → length (each_numbered (lines_of ps) 0 js) ≡ 2 * length js
lines_count ps js = numbered_length (lines_of ps) 2 0 js (λ i j. grind arith)

pub inner_few : (i : ℕ) (p : Part) → length (inner_of i p) ≤ 1
inner_few i p = by_kind (kind_named p.kind)
  where
    by_kind : (o : Option KindName) → length (inner_by i p o) ≤ 1
    by_kind None = grind arith
    by_kind (Some kind.Pinger) = grind arith
    by_kind (Some kind.Echo) = grind arith
    by_kind (Some kind.Ticker) = grind arith
    by_kind (Some kind.Router) = grind arith
    by_kind (Some kind.TestNic) = grind arith
    by_kind (Some kind.TrafficGen) = grind arith

pub wires_are : (w : Wiring) (ls : List LinkLine) (ys : List InnerLine) → w.links ≡ ls → w.inner ≡ ys → w ≡ record { links = ls; inner = ys }
wires_are w ls ys e f = rw (← e, ← f) refl

-- ---- the fault of a link

pub link_fails_right : (e : MakeFault) (ps qs : List Part) (i : ℕ) (j : Join) → ps ≡ qs → first_fault (port_check ps i (codes "left") j.left ∷ []) ≡ None → Fails is_memory e (first_fault (port_check ps i (codes "right") j.right ∷ [])) → Fails is_memory e (first_fault (link_checks qs i j))
unfolding link_checks
link_fails_right e ps qs i j q a b =
    let l = port_check ps i (codes "left") j.left in
    let r = port_check ps i (codes "right") j.right in
    let d = protocol_check ps i j in
    subst (λ (k : List Part). Fails is_memory e (first_fault (link_checks k i j))) q (fails_behind is_memory e (l ∷ []) (r ∷ d ∷ []) a (fails_front is_memory e (r ∷ []) (d ∷ []) b))

pub link_fails_protocol : (e : MakeFault) (ps qs : List Part) (i : ℕ) (j : Join) → ps ≡ qs → first_fault (port_check ps i (codes "left") j.left ∷ []) ≡ None → first_fault (port_check ps i (codes "right") j.right ∷ []) ≡ None → Fails is_memory e (first_fault (protocol_check ps i j ∷ [])) → Fails is_memory e (first_fault (link_checks qs i j))
unfolding link_checks
link_fails_protocol e ps qs i j q a b h =
    let l = port_check ps i (codes "left") j.left in
    let r = port_check ps i (codes "right") j.right in
    let d = protocol_check ps i j in
    subst (λ (k : List Part). Fails is_memory e (first_fault (link_checks k i j))) q (fails_behind is_memory e (l ∷ r ∷ []) (d ∷ []) (passes (l ∷ []) (r ∷ []) a b) h)
