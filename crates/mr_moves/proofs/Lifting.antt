-- The moves of one element are moves of the network.
use Rattle.std.proofs.Common.{◌≡◌, List, [], ◌∷◌, Bool, true, Option, Some, None, refl, sym, ap, ◌∙◌, subst, inl, ◌⊎◌}
use Rattle.std.specs.List.{AllByRecursion as Each}
use Rattle.mr_moves.specs.Moves.{Stands, IsOnce, Net, head, IsChain, InOrder}
use Rattle.mr_moves.specs.Local.{Passes, Injects, Delivers, Move, Injected, Passed, Delivered, Rested, Moves, Done, Then, Embeds, embedded}
use Rattle.mr_moves.proofs.Chains.{chain_once, chain_next, chain_last}
use Rattle.mr_moves.proofs.Moving.{injects_keeps, passes_keeps, delivers_keeps, rests_keeps, once_right}

module _ {A B F P : Type 0} (flow : P → F) (same : F → F → Bool) (path : F → List A) (next : F → A → Option A) (first : F → Option A) (home : B → A) (source target : B → Bool)
    (exact : (f g : F) → same f g ≡ true → f ≡ g) (own : (f : F) → same f f ≡ true)
    (decide : (a b : A) → (a ≡ b) ⊎ (a ≡ b → ⊥))
    (chain : (f : F) → IsChain (next f) (path f)) (starts : (f : F) → head (path f) ≡ first f)
    (at_of : (B → List P) → A → List P) (embeds : Embeds flow next first home source target at_of) where
  some_same : {X : Type 0} {x y : X} → Some x ≡ Some y → x ≡ y
  some_same h = cc

  once : (f : F) → IsOnce (path f)
  once f = chain_once (next f) (path f) (chain f)

  -- a packet in front of a place stands in its path
  in_path : (n : Net A P) → InOrder flow same path n → (a : A) (p : P) (rest : List P) → n.at a ≡ p ∷ rest → Stands a (path (flow p))
  in_path n h a p rest e = (subst (λ l. Each (λ q. Stands a (path (flow q))) l) e (h.home a)).0

  -- the two places of a move are apart
  apart_next : (f : F) (a b : A) → Stands a (path f) → next f a ≡ Some b → a ≡ b → ⊥
  apart_next f a b k e same_place =
      let there = chain_next (next f) a b (path f) (chain f) k e in
      let o = once_right there.before (a ∷ b ∷ there.after) (subst IsOnce there.is (once f)) in
      o.0 (inl same_place)

  module _ (n m : Net B P) (old : InOrder flow same path (embedded at_of n)) where
    lift_passes : Passes flow next first home source target n m → InOrder flow same path (embedded at_of m)
    lift_passes h =
        let stands : Stands (home h.from) (path (flow h.packet)) = in_path (embedded at_of n) old (home h.from) h.packet (embeds.seen n.at h.from h.packet (m.at h.from) h.from_is h.take).0 (embeds.seen n.at h.from h.packet (m.at h.from) h.from_is h.take).1 in
        let apart = apart_next (flow h.packet) (home h.from) (home h.to) stands h.leads in
        let there = chain_next (next (flow h.packet)) (home h.from) (home h.to) (path (flow h.packet)) (chain (flow h.packet)) stands h.leads in
        passes_keeps flow same path exact own decide once (embedded at_of n) (embedded at_of m)
        (record {
          packet = h.packet;
          before = there.before;
          from = home h.from;
          to = home h.to;
          after = there.after;
          is_path = there.is;
          take = embeds.front n.at m.at h.from h.packet h.from_is h.take (λ z e ne. h.others z ne (λ k. apart (sym e ∙ ap home k)));
          put = embeds.back n.at m.at h.to h.packet h.to_is h.put (λ z e ne. h.others z (λ k. apart (sym (ap home k) ∙ e)) ne);
          others = λ x e k. embeds.same n.at m.at x (λ y i. h.others y (λ d. e (sym i ∙ ap home d)) (λ d. k (sym i ∙ ap home d)));
          injected = h.injected;
          delivered = h.delivered;
        })
        old

    lift_injects : Injects flow next first home source target n m → InOrder flow same path (embedded at_of m)
    lift_injects h = at_path (path (flow h.packet)) refl (starts (flow h.packet))
      where
        at_path : (xs : List A) → path (flow h.packet) ≡ xs → head (path (flow h.packet)) ≡ first (flow h.packet) → InOrder flow same path (embedded at_of m)
        at_path [] e k = absurd (let z : None ≡ Some (home h.to) = sym (ap head e) ∙ k ∙ h.begins in cc)
        at_path (x ∷ xs) e k =
            let is : x ≡ home h.to = some_same (sym (ap head e) ∙ k ∙ h.begins) in
            injects_keeps flow same path exact own decide once (embedded at_of n) (embedded at_of m)
            (record {
              packet = h.packet;
              to = home h.to;
              after = xs;
              is_path = e ∙ ap (λ z. z ∷ xs) is;
              put = embeds.back n.at m.at h.to h.packet h.to_is h.put (λ z i ne. h.others z ne);
              others = λ x e. embeds.same n.at m.at x (λ y i. h.others y (λ d. e (sym i ∙ ap home d)));
              injected = h.injected;
              delivered = h.delivered;
            })
            old

    lift_delivers : Delivers flow next first home source target n m → InOrder flow same path (embedded at_of m)
    lift_delivers h =
        let took = embeds.front n.at m.at h.from h.packet h.from_is h.take (λ z e ne. h.others z ne) in
        let stands = in_path (embedded at_of n) old (home h.from) h.packet (at_of m.at (home h.from)) took in
        let there = chain_last (next (flow h.packet)) (home h.from) (path (flow h.packet)) (chain (flow h.packet)) stands h.ends in
        delivers_keeps flow same path exact own decide once (embedded at_of n) (embedded at_of m)
        (record {
          packet = h.packet;
          before = there.0;
          from = home h.from;
          is_path = there.1;
          take = took;
          others = λ x e. embeds.same n.at m.at x (λ y i. h.others y (λ d. e (sym i ∙ ap home d)));
          injected = h.injected;
          delivered = h.delivered;
        })
        old

    pub lifts : Move flow next first home source target n m → InOrder flow same path (embedded at_of m)
    lifts (Passed h) = lift_passes h
    lifts (Injected h) = lift_injects h
    lifts (Delivered h) = lift_delivers h
    lifts (Rested h) =
        rests_keeps flow same path exact own decide once (embedded at_of n) (embedded at_of m)
        (record { all = λ x. embeds.same n.at m.at x (λ y i. h.all y); injected = h.injected; delivered = h.delivered }) old

  -- a list of moves of one element keeps what is once and in order in the network
  pub lifts_all : (n m : Net B P) → Moves flow next first home source target n m → InOrder flow same path (embedded at_of n) → InOrder flow same path (embedded at_of m)
  lifts_all n m (Done h) old =
      rests_keeps flow same path exact own decide once (embedded at_of n) (embedded at_of m)
      (record { all = λ x. embeds.same n.at m.at x (λ y i. h.all y); injected = h.injected; delivered = h.delivered }) old
  lifts_all n m (Then {k = k} h more) old = lifts_all k m more (lifts n k old h)
