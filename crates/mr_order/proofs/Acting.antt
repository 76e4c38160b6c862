-- The acts of an element at a call are moves of packets.
use Rattle.std.proofs.Common.{◌≡◌, ℕ, List, [], ◌∷◌, ◌++◌, Option, Some, None, refl, sym, ◌∙◌, subst, append_assoc, append-nil}
use Rattle.ss_model.specs.declared.Event.{Event}
use Rattle.ss_model.specs.declared.Cause.{Cause}
use Rattle.ss_model.specs.Wiring.{Wiring}
use Rattle.ss_model.specs.Step.{Reaction}
use Rattle.ss_safe.specs.Kept.Found.{ToldAs}
use Rattle.mr_moves.specs.Moves.{Net}
use Rattle.mr_moves.specs.Local.{Done, Then}
use Rattle.mr_order.specs.Seats.{Output, Seat, seat, comes, Part, begin_net, end_net, LinesLeadBack}
use Rattle.mr_order.specs.Ways.{Ways, Acts, Done as Idle, Rest, Pump, Cross, Make, Receive, Begins, Comes, Quiet, Moves as Called, Arrived}
use Rattle.mr_order.proofs.Leading.{leads_of, untold}
use Rattle.mr_order.proofs.Working.{Steps, pump_moves, cross_moves, make_moves, receive_moves, arrive_moves, quiet_begins, rest_moves}

nil_cons : {X : Type 0} {x : X} {xs : List X} → [] ≡ x ∷ xs → ⊥
nil_cons h = cc

module _ {S L P F : Type 0} (ways : Ways S L P F) (w : Wiring) (lead : LinesLeadBack w) (route : F → ℕ → Option (ℕ × ℕ)) (first : F → Option Seat) (c : ℕ) (x : S)
    (routed : (f : F) → route f c ≡ ways.way x f) (started : (f : F) (p ch : ℕ) → ways.begins x f ≡ Some (p, ch) → first f ≡ Some (seat Output c p ch)) where
  abbrev All : Net Part P → Net Part P → Type 0
  All n k = Steps ways.rows w (leads_of w lead) ways.flow route first c n k

  abbrev end : Reaction S L → List P → List P → Net Part P
  end r i d = end_net ways.rows w r i d

  acts_move : {r t : Reaction S L} {i d : List P} → Acts ways x r t i d → (i0 d0 : List P) → All (end r i0 d0) (end t (i0 ++ i) (d0 ++ d))
  acts_move Idle i0 d0 = Done (record { all = λ y. refl; injected = append-nil i0; delivered = append-nil d0 })
  acts_move (Rest {r = r} {s = s} h more) i0 d0 = Then (rest_moves ways.rows w (leads_of w lead) ways.flow route first c r s i0 d0 h) (acts_move more i0 d0)
  acts_move (Pump {r = r} {s = s} p ch packet h more) i0 d0 = Then (pump_moves ways.rows w (leads_of w lead) ways.flow route first c r s p ch packet i0 d0 h) (acts_move more i0 d0)
  acts_move (Cross {r = r} {s = s} p ch q dh packet goes h more) i0 d0 = Then (cross_moves ways.rows w (leads_of w lead) ways.flow route first c r s p ch q dh packet i0 d0 h (routed (ways.flow packet) ∙ goes)) (acts_move more i0 d0)
  acts_move (Make {r = r} {s = s} {t = t} {i = i} {d = d} p ch packet begins h more) i0 d0 =
      Then (make_moves ways.rows w (leads_of w lead) ways.flow route first c r s p ch packet i0 d0 h (started (ways.flow packet) p ch begins))
      (subst (λ z. All (end s (i0 ++ packet ∷ []) d0) (end t z (d0 ++ d))) (append_assoc i0 (packet ∷ []) i) (acts_move more (i0 ++ packet ∷ []) d0))
  acts_move (Receive {r = r} {s = s} {t = t} {i = i} {d = d} p ch packet ends h more) i0 d0 =
      Then (receive_moves ways.rows w (leads_of w lead) ways.flow route first c r s p ch packet i0 d0 h (routed (ways.flow packet) ∙ ends))
      (subst (λ z. All (end s i0 (d0 ++ packet ∷ [])) (end t (i0 ++ i) z)) (append_assoc d0 (packet ∷ []) d) (acts_move more i0 (d0 ++ packet ∷ [])))

  -- what an element does at a call
  pub call_moves : (e : Event L) (why : Cause L) → ToldAs w e.key.class e.key.line e.load c why → (r : Reaction S L) (i d : List P) → Called ways x why r i d → (i0 d0 : List P) → All (begin_net ways.rows w x why i0 d0) (end r (i0 ++ i) (d0 ++ d))
  call_moves e why k r i d m i0 d0 = by_begin m.first m.begins (acts_move m.acts i0 d0)
    where
      by_comes : (f : Reaction S L) (p ch : ℕ) (packet : P) → Arrived ways.rows x why f p ch packet → (o : Option (ℕ × ℕ)) → comes w c p ≡ o → All (end f i0 d0) (end r (i0 ++ i) (d0 ++ d)) → All (begin_net ways.rows w x why i0 d0) (end r (i0 ++ i) (d0 ++ d))
      by_comes f p ch packet h None o more = absurd (nil_cons (sym (untold w lead (ways.rows.carries ch) e c p why k o) ∙ h.came))
      by_comes f p ch packet h (Some (a, b)) o more = Then (arrive_moves ways.rows w (leads_of w lead) ways.flow route first c x why f p ch a b packet i0 d0 h o) more

      by_begin : (f : Reaction S L) → Begins ways x why f → All (end f i0 d0) (end r (i0 ++ i) (d0 ++ d)) → All (begin_net ways.rows w x why i0 d0) (end r (i0 ++ i) (d0 ++ d))
      by_begin f (Comes p ch packet h) more = by_comes f p ch packet h (comes w c p) refl more
      by_begin f (Quiet none is) more = Then (quiet_begins ways.rows w (leads_of w lead) ways.flow route first c x why i0 d0 none) (subst (λ z. All (end z i0 d0) (end r (i0 ++ i) (d0 ++ d))) is more)
