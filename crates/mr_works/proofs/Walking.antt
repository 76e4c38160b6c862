-- Over components that are wired as a topology says, each flow's walk ends at its destination.
use Rattle.std.proofs.Common.{◌≡◌, ℕ, zero, suc, ◌+◌, ◌<◌, Bool, true, false, cond, List, Option, Some, None, refl, sym, ap, ◌∙◌, subst, arith}
use Rattle.std.specs.Prelude.{slice_get, nat_lt, ◌==◌, ◌&&◌}
use Rattle.std.proofs.lemmas.Bool.{false≢true}
use Rattle.ss_model.specs.Wiring.{Wiring}
use Rattle.mr_flow.specs.declared.Peer.TheVariants as peer
use Rattle.mr_topo.specs.Routes.{Flow, Routes, Arrives, IsFlow, Delivers}
use Rattle.mr_router.specs.Network.{routes}
use Rattle.mr_nic.specs.Kept.Judging.{both, eq_of, lt_of}
use Rattle.mr_order.specs.Seats.{goes}
use Rattle.mr_order.specs.Paths.{GoesOn, RoutesOn, IsWalk}
use Rattle.mr_order.specs.Ways.{Ways}
use Rattle.mr_order.specs.Runs.{way_at, route, Paths}
use Rattle.mr_works.specs.Walks.{Node, Router, Host, GoesTo, IsWired, most_of, WiredPathsEnd, endpoint_node, RoutersFollow, EndpointsFollow}

some_same : {X : Type 0} {x y : X} → Some x ≡ Some y → x ≡ y
some_same h = cc

host_same : (d e : ℕ) → ◌≡◌ {A = Option Node} (Some (Host d)) (Some (Host e)) → d ≡ e
host_same d e h = ap number (some_same h)
  where
    number : Node → ℕ
    number (Router r) = r
    number (Host k) = k

module _ {S L P : Type 0} (ways : Ways S L P Flow) (t : Routes) (hops : ℕ → ℕ → ℕ) (node : S → Option Node) (w : Wiring) (xs : List S) (host home : ℕ → ℕ) (ends : Delivers t hops) (wired : IsWired ways t node w xs host home) where
  abbrev Walks : Flow → ℕ → ℕ → Type 0
  Walks f n c = IsWalk w (route ways w xs f) (host f.dst) n c

  -- on from a router's port
  on_line : (f : Flow) (n c p q : ℕ) (k : Node) (g : GoesTo ways t node w xs c p q k) → Walks f n g.to → GoesOn w (route ways w xs f) (Walks f n) (goes w c p)
  on_line f n c p q k g h = subst (λ o. GoesOn w (route ways w xs f) (Walks f n) o) (sym g.goes) h

  walk_at : (f : Flow) (n r c : ℕ) (x : S) → IsFlow t f → slice_get xs c ≡ Some x → node x ≡ Some (Router r) → Arrives t f r n → Walks f (n + 2) c
  walk_at f zero r c x flow there is arrives =
      let within = wired.routers c r x there is in
      let at_port = ends.port f r flow within in
      let g : GoesTo ways t node w xs c (t.route r f).0 0 (Host f.dst) = wired.peers c r (t.route r f).0 x (peer.Host f.dst) there is at_port arrives in
      let stops : route ways w xs f g.to ≡ None = ap (way_at ways w xs f) g.there ∙ (wired.follows g.to g.element g.there).ends f.dst f g.is in
      let at : host f.dst ≡ g.to = (wired.hosts g.to f.dst g.element g.there g.is).1 in
      let last : Walks f 1 g.to = subst (λ o. RoutesOn w (route ways w xs f) (Walks f 0) (host f.dst) g.to o) (sym stops) (sym at) in
      subst (λ o. RoutesOn w (route ways w xs f) (Walks f 1) (host f.dst) c o) (sym (ap (way_at ways w xs f) there ∙ (wired.follows c x there).way r f is))
      (on_line f 1 c (t.route r f).0 0 (Host f.dst) g last)
  walk_at f (suc n) r c x flow there is arrives =
      let within = wired.routers c r x there is in
      let at_port = ends.port f r flow within in
      let g : GoesTo ways t node w xs c (t.route r f).0 arrives.1 (Router arrives.0) = wired.peers c r (t.route r f).0 x (peer.Router arrives.0 arrives.1) there is at_port arrives.2 in
      let more : Walks f (n + 2) g.to = walk_at f n arrives.0 g.to g.element flow g.there g.is arrives.4 in
      subst (λ m. Walks f m c) {x = suc (n + 2)} {y = suc n + 2} (omega arith)
      (subst (λ o. RoutesOn w (route ways w xs f) (Walks f (n + 2)) (host f.dst) c o) (sym (ap (way_at ways w xs f) there ∙ (wired.follows c x there).way r f is))
      (on_line f (n + 2) c (t.route r f).0 arrives.1 (Router arrives.0) g more))

  paths_end : Paths ways w xs (most_of hops home) (λ f. host f.dst)
  paths_end = record {
    one = λ f c d p ch q dh x y gx gy bx byy.
        let a = (wired.follows c x gx).begins f p ch bx in
        let b = (wired.follows d y gy).begins f q dh byy in
        sym (wired.hosts c f.src x gx a.0).1 ∙ (wired.hosts d f.src y gy b.0).1;
    walks = λ f c p ch x gx bx.
        let a = (wired.follows c x gx).begins f p ch bx in
        let h = wired.hosts c f.src x gx a.0 in
        let g : GoesTo ways t node w xs c 0 h.2 (Router (home f.src)) = h.3 in
        let flow : IsFlow t f = record { src = h.0; dst = a.2; vn = a.3 } in
        let within = wired.routers g.to (home f.src) g.element g.there g.is in
        let walk : Walks f (hops (home f.src) f.dst + 2) g.to = walk_at f (hops (home f.src) f.dst) (home f.src) g.to g.element flow g.there g.is (ends.arrives f (home f.src) flow within) in
        subst (λ k. GoesOn w (route ways w xs f) (Walks f (hops (home f.src) f.dst + 2)) (goes w c k)) (sym a.1) (on_line f (hops (home f.src) f.dst + 2) c 0 h.2 (Router (home f.src)) g walk);
  }

pub wired_paths_end : {S L P : Type 0} → WiredPathsEnd S L P
wired_paths_end ways t hops node w xs host home ends wired = paths_end ways t hops node w xs host home ends wired

-- ---- routers and endpoints

router_same : (r q : ℕ) → ◌≡◌ {A = Option Node} (Some (Router r)) (Some (Router q)) → r ≡ q
router_same r q h = ap number (some_same h)
  where
    number : Node → ℕ
    number (Router k) = k
    number (Host k) = k

apart : (r e : ℕ) → ◌≡◌ {A = Option Node} (Some (Router r)) (Some (Host e)) → ⊥
apart r e h = false≢true (ap is_host (some_same h))
  where
    is_host : Node → Bool
    is_host (Router k) = false
    is_host (Host k) = true

none_some : {X : Type 0} {x : X} → None ≡ Some x → ⊥
none_some h = cc

pub routers_follow : RoutersFollow
routers_follow x = record {
  way = λ r f is. ap (λ k. Some ((routes x.set.topology).route k f)) (router_same x.set.id r is);
  ends = λ e f is. absurd (apart x.set.id e is);
  begins = λ f p ch b. absurd (none_some b);
}

pub endpoints_follow : EndpointsFollow
endpoints_follow t n peers few = record {
  way = λ r f is. absurd (apart r n.id (sym is));
  ends = λ e f is. refl;
  begins = λ f p ch b. by_test f p ch ((f.src == n.id) && (nat_lt f.dst n.peers && nat_lt f.vn n.vns)) refl b;
}
  where
    by_test : (f : Flow) (p ch : ℕ) (b : Bool) → (f.src == n.id) && (nat_lt f.dst n.peers && nat_lt f.vn n.vns) ≡ b → cond {A = Option (ℕ × ℕ)} b (Some (0, f.vn)) None ≡ Some (p, ch) →
        (endpoint_node n ≡ Some (Host f.src)) × (p ≡ 0) × (f.dst < t.endpoints) × (f.vn < 8)
    by_test f p ch true e h =
        let one = both (f.src == n.id) (nat_lt f.dst n.peers && nat_lt f.vn n.vns) e in
        let two = both (nat_lt f.dst n.peers) (nat_lt f.vn n.vns) one.1 in
        let dst = lt_of f.dst n.peers two.0 in
        let vn = lt_of f.vn n.vns two.1 in
        let port : ◌≡◌ {A = ℕ × ℕ} (0, f.vn) (p, ch) = some_same h in
        (ap (λ k. Some (Host k)) (sym (eq_of f.src n.id one.0)), sym (ap (λ (z : ℕ × ℕ). z.0) port), omega (arith, dst, peers), omega (arith, vn, few))
    by_test f p ch false e h = absurd (none_some h)
