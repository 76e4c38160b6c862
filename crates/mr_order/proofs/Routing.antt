-- The path of a flow is a chain; seats can be told apart.
use Rattle.std.proofs.Common.{◌≡◌, ℕ, zero, suc, eqb, List, Option, Some, None, refl, sym, ap, ◌∙◌, subst, arith, inl, inr, ◌⊎◌}
use Rattle.std.proofs.lemmas.Bool.{cases_Bool, eqb-true, eqb-false}
use Rattle.ss_model.specs.Wiring.{Wiring}
use Rattle.mr_moves.specs.Moves.{Stands, head, IsChain, IsOnce}
use Rattle.mr_moves.proofs.Chains.{chain_once}
use Rattle.mr_order.specs.Seats.{Spot, Input, Output, Wire, Nowhere, Seat, seat, goes}
use Rattle.mr_order.specs.Paths.{next_input, next_wire, next, GoesOn, RoutesOn, IsWalk, onward, routed, walk, path_from}

module _ (w : Wiring) (route : ℕ → Option (ℕ × ℕ)) (d : ℕ) where
  abbrev Chain : List Seat → Type 0
  Chain xs = IsChain (next w route) xs

  abbrev Good : ℕ → Type 0
  Good n = (c p ch : ℕ) → IsWalk w route d n c → Chain (walk w route n c p ch)

  -- what a line leads to
  on_line : (n ch : ℕ) (o : Option (ℕ × ℕ × ℕ)) → Good n → GoesOn w route (IsWalk w route d n) o → (next_wire w route ch o ≡ head (onward w route (walk w route n) ch o)) × Chain (onward w route (walk w route n) ch o)
  on_line n ch None ih h = absurd h
  on_line zero ch (Some (l, b, q)) ih h = absurd h
  on_line (suc n) ch (Some (l, b, q)) ih h = (refl, ih b q ch h)

  pub walk_chain : (n c p ch : ℕ) → IsWalk w route d n c → Chain (walk w route n c p ch)
  walk_chain zero c p ch h = absurd h
  walk_chain (suc n) c p ch h = at_route (route c) (walk_chain n) h
    where
      at_route : (o : Option (ℕ × ℕ)) → Good n → RoutesOn w route (IsWalk w route d n) d c o → (next_input w route c o ≡ head (routed w route (walk w route n) c o)) × Chain (routed w route (walk w route n) c o)
      at_route None ih h = (refl, tt)
      at_route (Some (o, ch')) ih h = (refl, (refl, on_line n ch' (goes w c o) ih h))

  pub path_chain : (s p ch n : ℕ) → GoesOn w route (IsWalk w route d n) (goes w s p) → Chain (path_from w route n s p ch)
  path_chain s p ch n h = (refl, on_line n ch (goes w s p) (walk_chain n) h)

  pub path_once : (s p ch n : ℕ) → GoesOn w route (IsWalk w route d n) (goes w s p) → IsOnce (path_from w route n s p ch)
  path_once s p ch n h = chain_once (next w route) (path_from w route n s p ch) (path_chain s p ch n h)

abbrev number : Spot → ℕ
number Input = 0
number Output = 1
number Wire = 2
number Nowhere = 3

same_spot : (a b : Spot) → number a ≡ number b → a ≡ b
same_spot Input Input h = refl
same_spot Input Output h = absurd (cc)
same_spot Input Wire h = absurd (cc)
same_spot Input Nowhere h = absurd (cc)
same_spot Output Input h = absurd (cc)
same_spot Output Output h = refl
same_spot Output Wire h = absurd (cc)
same_spot Output Nowhere h = absurd (cc)
same_spot Wire Input h = absurd (cc)
same_spot Wire Output h = absurd (cc)
same_spot Wire Wire h = refl
same_spot Wire Nowhere h = absurd (cc)
same_spot Nowhere Input h = absurd (cc)
same_spot Nowhere Output h = absurd (cc)
same_spot Nowhere Wire h = absurd (cc)
same_spot Nowhere Nowhere h = refl

decide_number : {X : Type 0} (f : X → ℕ) (a b : X) → (f a ≡ f b) ⊎ (a ≡ b → ⊥)
decide_number f a b =
    elim (cases_Bool (eqb (f a) (f b))) [
      | inl e ↦ inl (eqb-true (f a) (f b) e)
      | inr e ↦ inr (λ h. eqb-false (f a) (f b) e (ap f h))
    ]

pub decide_seat : (a b : Seat) → (a ≡ b) ⊎ (a ≡ b → ⊥)
decide_seat a b =
    elim (decide_number (λ (x : Seat). number x.spot) a b) [
      | inr e ↦ inr e
      | inl k ↦ elim (decide_number (λ (x : Seat). x.component) a b) [
        | inr e ↦ inr e
        | inl n ↦ elim (decide_number (λ (x : Seat). x.port) a b) [
          | inr e ↦ inr e
          | inl p ↦ elim (decide_number (λ (x : Seat). x.channel) a b) [
            | inr e ↦ inr e
            | inl c ↦ inl (join a b (same_spot a.spot b.spot k) n p c)
          ]
        ]
      ]
    ]
  where
    join : (a b : Seat) → a.spot ≡ b.spot → a.component ≡ b.component → a.port ≡ b.port → a.channel ≡ b.channel → a ≡ b
    join a b k n p c =
        ap (λ z. seat z a.component a.port a.channel) k ∙ ap (λ z. seat b.spot z a.port a.channel) n ∙ ap (λ z. seat b.spot b.component z a.channel) p ∙ ap (λ z. seat b.spot b.component b.port z) c

other_spot : (x y : Seat) (k : ℕ) → number x.spot ≡ 0 → number y.spot ≡ suc k → x ≡ y → ⊥
other_spot x y k i j e = let z : number x.spot ≡ number y.spot = ap (λ (s : Seat). number s.spot) e in absurd (omega (arith, i, j, z))

module _ (w : Wiring) (route : ℕ → Option (ℕ × ℕ)) (d : ℕ) where
  abbrev Ends : ℕ → Type 0
  Ends n = (c p ch : ℕ) → IsWalk w route d n c → (a q dh : ℕ) → Stands (seat Input a q dh) (walk w route n c p ch) → route a ≡ None → a ≡ d

  ends_line : (n ch : ℕ) (o : Option (ℕ × ℕ × ℕ)) → Ends n → GoesOn w route (IsWalk w route d n) o → (a q dh : ℕ) → Stands (seat Input a q dh) (onward w route (walk w route n) ch o) → route a ≡ None → a ≡ d
  ends_line n ch None ih h a q dh k r = absurd k
  ends_line n ch (Some (l, b, j)) ih h a q dh k r = ih b j ch h a q dh k r

  -- a flow that ends where a packet of it stands ends at its destination
  pub ends_there : (n c p ch : ℕ) → IsWalk w route d n c → (a q dh : ℕ) → Stands (seat Input a q dh) (walk w route n c p ch) → route a ≡ None → a ≡ d
  ends_there zero c p ch h a q dh k r = absurd h
  ends_there (suc n) c p ch h a q dh (inl e) r =
      let same : a ≡ c = ap (λ (x : Seat). x.component) e in
      same ∙ subst (λ o. RoutesOn w route (IsWalk w route d n) d c o) (ap route (sym same) ∙ r) h
  ends_there (suc n) c p ch h a q dh (inr k) r = in_routed (route c) (ends_there n) h k
    where
      not_output : (x : Seat) → number x.spot ≡ 1 → seat Input a q dh ≡ x → ⊥
      not_output x i e = let z : 0 ≡ 1 = ap (λ (y : Seat). number y.spot) e ∙ i in absurd (omega (arith, z))

      not_wire : (x : Seat) → number x.spot ≡ 2 → seat Input a q dh ≡ x → ⊥
      not_wire x i e = let z : 0 ≡ 2 = ap (λ (y : Seat). number y.spot) e ∙ i in absurd (omega (arith, z))

      in_routed : (o : Option (ℕ × ℕ)) → Ends n → RoutesOn w route (IsWalk w route d n) d c o → Stands (seat Input a q dh) (routed w route (walk w route n) c o) → a ≡ d
      in_routed None ih h k = absurd k
      in_routed (Some (o, oh)) ih h (inl e) = absurd (not_output (seat Output c o oh) refl e)
      in_routed (Some (o, oh)) ih h (inr (inl e)) = absurd (not_wire (seat Wire c o oh) refl e)
      in_routed (Some (o, oh)) ih h (inr (inr k)) = ends_line n oh (goes w c o) ih h a q dh k r

  -- so does one whose path comes to the place
  pub path_ends : (s p ch n : ℕ) → GoesOn w route (IsWalk w route d n) (goes w s p) → (a q dh : ℕ) → Stands (seat Input a q dh) (path_from w route n s p ch) → route a ≡ None → a ≡ d
  path_ends s p ch n h a q dh (inl e) r = absurd (other_spot (seat Input a q dh) (seat Output s p ch) 0 refl refl e)
  path_ends s p ch n h a q dh (inr (inl e)) r = absurd (other_spot (seat Input a q dh) (seat Wire s p ch) 1 refl refl e)
  path_ends s p ch n h a q dh (inr (inr k)) r = ends_line n ch (goes w s p) (ends_there n) h a q dh k r
