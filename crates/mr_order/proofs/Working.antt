-- The small acts of routers and endpoints are moves.
use Rattle.std.proofs.Common.{◌≡◌, ℕ, List, [], ◌∷◌, ◌++◌, Option, Some, None, refl, sym, ap, ◌∙◌}
use Rattle.ss_model.specs.declared.Cause.{Cause}
use Rattle.ss_model.specs.Wiring.{Wiring}
use Rattle.ss_model.specs.Step.{Reaction}
use Rattle.mr_moves.specs.Moves.{Net}
use Rattle.mr_moves.specs.Local.{Move, Injected, Passed, Delivered, Rested, Moves, Done, Then}
use Rattle.mr_order.specs.Rows.{Rows, takes}
use Rattle.mr_order.specs.Seats.{Input, Output, Seat, seat, comes, Side, Came, In, Out, Left, Part, part, home, home_came, begin_at, end_at, begin_net, end_net, is_source, is_target}
use Rattle.mr_order.specs.Paths.{next, next_wire, next_input}
use Rattle.mr_order.specs.Ways.{Other, Stays, Arrived, Pumped, Crossed, Made, Received}
use Rattle.mr_order.proofs.Leading.{Leads}

module _ {S L P F : Type 0} (rows : Rows S L P) (w : Wiring) (leads : Leads w) (flow : P → F) (route : F → ℕ → Option (ℕ × ℕ)) (first : F → Option Seat) (c : ℕ) where
  abbrev pub on : F → Seat → Option Seat
  on f x = next w (route f) x

  abbrev pub Step : Net Part P → Net Part P → Type 0
  Step n k = Move flow on first (home rows w c) is_source is_target n k

  abbrev pub Steps : Net Part P → Net Part P → Type 0
  Steps n k = Moves flow on first (home rows w c) is_source is_target n k

  pub one : (n k : Net Part P) → Step n k → Steps n k
  one n k h = Then h (Done (record { all = λ y. refl; injected = refl; delivered = refl }))

  pub joined : (n k l : Net Part P) → Steps n k → Steps k l → Steps n l
  joined n k l (Done h) more = Then (Rested h) more
  joined n k l (Then {k = j} h rest) more = Then h (joined j k l rest more)

  other : (s : Side) (p ch q dh : ℕ) → (part s p ch ≡ part s q dh → ⊥) → Other p ch q dh
  other s p ch q dh ne e f = ne (ap (λ z. part s z ch) e ∙ ap (λ z. part s q z) f)

  -- a packet goes from an output queue onto its line
  pub pump_moves : (r s : Reaction S L) (p ch : ℕ) (packet : P) (i d : List P) → Pumped rows r s p ch packet → Step (end_net rows w r i d) (end_net rows w s i d)
  pump_moves r s p ch packet i d h = Passed (record {
    packet = packet;
    from = part Out p ch;
    to = part Left p ch;
    from_is = refl;
    to_is = refl;
    leads = refl;
    take = h.queue;
    put = h.sent;
    others = λ y e f. others_at y.side y.port y.channel e f;
    injected = refl;
    delivered = refl;
  })
    where
      others_at : (t : Side) (q dh : ℕ) → (part t q dh ≡ part Out p ch → ⊥) → (part t q dh ≡ part Left p ch → ⊥) → end_at rows w s t q dh ≡ end_at rows w r t q dh
      others_at Came q dh e f = refl
      others_at In q dh e f = h.inputs q dh
      others_at Out q dh e f = h.outputs q dh (other Out q dh p ch e)
      others_at Left q dh e f = h.others q dh (other Left q dh p ch f)

  -- a packet crosses to the output that its route says
  pub cross_moves : (r s : Reaction S L) (p ch q dh : ℕ) (packet : P) (i d : List P) → Crossed rows r s p ch q dh packet → route (flow packet) c ≡ Some (q, dh) → Step (end_net rows w r i d) (end_net rows w s i d)
  cross_moves r s p ch q dh packet i d h goes = Passed (record {
    packet = packet;
    from = part In p ch;
    to = part Out q dh;
    from_is = refl;
    to_is = refl;
    leads = ap (next_input w (route (flow packet)) c) goes;
    take = h.from;
    put = h.to;
    others = λ y e f. others_at y.side y.port y.channel e f;
    injected = refl;
    delivered = refl;
  })
    where
      others_at : (t : Side) (a b : ℕ) → (part t a b ≡ part In p ch → ⊥) → (part t a b ≡ part Out q dh → ⊥) → end_at rows w s t a b ≡ end_at rows w r t a b
      others_at Came a b e f = refl
      others_at In a b e f = h.inputs a b (other In a b p ch e)
      others_at Out a b e f = h.outputs a b (other Out a b q dh f)
      others_at Left a b e f = h.sent a b

  -- a new packet of this source
  pub make_moves : (r s : Reaction S L) (p ch : ℕ) (packet : P) (i d : List P) → Made rows r s p ch packet → first (flow packet) ≡ Some (seat Output c p ch) → Step (end_net rows w r i d) (end_net rows w s (i ++ packet ∷ []) d)
  make_moves r s p ch packet i d h begins = Injected (record {
    packet = packet;
    to = part Out p ch;
    to_is = refl;
    begins = begins;
    put = h.queue;
    others = λ y e. others_at y.side y.port y.channel e;
    injected = refl;
    delivered = refl;
  })
    where
      others_at : (t : Side) (a b : ℕ) → (part t a b ≡ part Out p ch → ⊥) → end_at rows w s t a b ≡ end_at rows w r t a b
      others_at Came a b e = refl
      others_at In a b e = h.inputs a b
      others_at Out a b e = h.outputs a b (other Out a b p ch e)
      others_at Left a b e = h.sent a b

  -- a packet whose flow ends here
  pub receive_moves : (r s : Reaction S L) (p ch : ℕ) (packet : P) (i d : List P) → Received rows r s p ch packet → route (flow packet) c ≡ None → Step (end_net rows w r i d) (end_net rows w s i (d ++ packet ∷ []))
  receive_moves r s p ch packet i d h goes = Delivered (record {
    packet = packet;
    from = part In p ch;
    from_is = refl;
    ends = ap (next_input w (route (flow packet)) c) goes;
    take = h.queue;
    others = λ y e. others_at y.side y.port y.channel e;
    injected = refl;
    delivered = refl;
  })
    where
      others_at : (t : Side) (a b : ℕ) → (part t a b ≡ part In p ch → ⊥) → end_at rows w s t a b ≡ end_at rows w r t a b
      others_at Came a b e = refl
      others_at In a b e = h.inputs a b (other In a b p ch e)
      others_at Out a b e = h.outputs a b
      others_at Left a b e = h.sent a b

  -- a packet arrives
  pub arrive_moves : (x : S) (why : Cause L) (r : Reaction S L) (p ch a b : ℕ) (packet : P) (i d : List P) → Arrived rows x why r p ch packet → comes w c p ≡ Some (a, b) → Step (begin_net rows w x why i d) (end_net rows w r i d)
  arrive_moves x why r p ch a b packet i d h linked = Passed (record {
    packet = packet;
    from = part Came p ch;
    to = part In p ch;
    from_is = refl;
    to_is = refl;
    leads = goes_on;
    take = h.came;
    put = h.queue;
    others = λ y e f. others_at y.side y.port y.channel e f;
    injected = refl;
    delivered = refl;
  })
    where
      goes_on : on (flow packet) (home rows w c (part Came p ch)) ≡ Some (seat Input c p ch)
      goes_on =
          let g = leads.there c p a b linked in
          ap (λ o. on (flow packet) (home_came rows w c o p ch)) linked ∙ ap (next_wire w (route (flow packet)) ch) g.1

      others_at : (t : Side) (q dh : ℕ) → (part t q dh ≡ part Came p ch → ⊥) → (part t q dh ≡ part In p ch → ⊥) → end_at rows w r t q dh ≡ begin_at rows w x why t q dh
      others_at Came q dh e f = sym (h.no_more q dh (other Came q dh p ch e))
      others_at In q dh e f = h.inputs q dh (other In q dh p ch f)
      others_at Out q dh e f = h.outputs q dh
      others_at Left q dh e f = h.sent q dh

  -- where nothing comes, a call begins as if it had just ended
  pub quiet_begins : (x : S) (why : Cause L) (i d : List P) → ((p ch : ℕ) → takes (rows.carries ch) p why ≡ []) → Step (begin_net rows w x why i d) (end_net rows w (record { state = x; actions = [] }) i d)
  quiet_begins x why i d h = Rested (record { all = λ y. all_at y.side y.port y.channel; injected = refl; delivered = refl })
    where
      all_at : (t : Side) (p ch : ℕ) → end_at rows w (record { state = x; actions = [] }) t p ch ≡ begin_at rows w x why t p ch
      all_at Came p ch = sym (h p ch)
      all_at In p ch = refl
      all_at Out p ch = refl
      all_at Left p ch = refl

  -- what changes no queue and sends no packet
  pub rest_moves : (r s : Reaction S L) (i d : List P) → Stays rows r s → Step (end_net rows w r i d) (end_net rows w s i d)
  rest_moves r s i d h = Rested (record { all = λ y. all_at y.side y.port y.channel; injected = refl; delivered = refl })
    where
      all_at : (t : Side) (p ch : ℕ) → end_at rows w s t p ch ≡ end_at rows w r t p ch
      all_at Came p ch = refl
      all_at In p ch = h.inputs p ch
      all_at Out p ch = h.outputs p ch
      all_at Left p ch = h.sent p ch
