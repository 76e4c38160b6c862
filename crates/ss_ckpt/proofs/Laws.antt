-- The form of checkpoints is a form: what is read is spelled so, and what is spelled is read again.
use Rattle.std.proofs.Common.{◌≡◌, ℕ, zero, suc, ◌+◌, Bool, true, false, cond, eqb, List, [], ◌∷◌, ◌++◌, length, Option, Some, None, is_some, Ok, Err, refl, sym, ap, subst, ◌∙◌}
use Rattle.std.specs.Prelude.{nat_lt}
use Rattle.std.proofs.lemmas.Bool.{eqb-true}
use Rattle.ss_wire.specs.Wire.{Cursor, IsBytes}
use Rattle.ss_wire.specs.Form.{Takes, IsForm, bytes, nothing, lifted}
use Rattle.ss_wire.proofs.Forms.{bind_ok, chosen_ok, ok_is, plain_form, bytes_form, nothing_form, never_form, only_form, pair_form, told_form, some_form, choose_form, cons_form, each_as_form, counted_form, lifted_form}
use Rattle.ss_model.specs.declared.Key.{Key}
use Rattle.ss_model.specs.declared.Event.{Event}
use Rattle.ss_model.specs.Wiring.{Wiring, target_of}
use Rattle.ss_element.specs.Saving.{Saving, state_form, load_form}
use Rattle.ss_ckpt.specs.declared.fault.CkptFault.{CkptFault}
use Rattle.ss_ckpt.specs.declared.fault.CkptFault.TheVariants as fault
use Rattle.ss_ckpt.specs.Faults.{fault_of}
use Rattle.ss_ckpt.specs.Form.{field, magic, marked, mark, is_time, time_field, last_field, is_size, text_form, head_fields, head_form, is_class, class_field, is_reached, line_field, not_after, receiver, key_fields, key_form, sorted_key, load_by, load_at, event_fields, event_form, events_form, pending_form, states_form, body_form, judged_head, body_by, checkpoint_form}

-- ---- the head

bytes_behind : (ms bs : List ℕ) → IsBytes (ms ++ bs) → IsBytes bs
bytes_behind [] bs h = h
bytes_behind (m ∷ ms) bs h = bytes_behind ms bs (λ i. h (suc i))

marked_takes : (ms bs rest : List ℕ) → marked ms bs ≡ Ok rest → bs ≡ ms ++ 49 ∷ rest
marked_takes [] [] rest e = absurd cc
marked_takes [] (v ∷ bs) rest e =
    let g = chosen_ok (eqb v 49) fault.Form bs rest e in
    ap (λ x. x ∷ bs) (eqb-true v 49 g.0) ∙ ap (λ l. 49 ∷ l) g.1
marked_takes (m ∷ ms) [] rest e = absurd cc
marked_takes (m ∷ ms) (b ∷ bs) rest e = by_test (eqb b m) refl (marked_takes ms bs rest) e
  where
    by_test : (t : Bool) → eqb b m ≡ t → (marked ms bs ≡ Ok rest → bs ≡ ms ++ 49 ∷ rest) → cond t (marked ms bs) (Err fault.Magic) ≡ Ok rest → b ∷ bs ≡ m ∷ ms ++ 49 ∷ rest
    by_test true c ih k = ap (λ x. x ∷ bs) (eqb-true b m c) ∙ ap (λ l. m ∷ l) (ih k)
    by_test false c ih k = absurd cc

mark_is_form : IsForm mark
mark_is_form = record {
  takes = λ c v d h e.
      let b = bind_ok (marked magic c.rest) (λ rest. Ok (1, record { rest = rest; at = c.at + 8 })) (v, d) e in
      let t = marked_takes magic c.rest b.0 b.1 in
      let here : Takes mark c 1 (record { rest = b.0; at = c.at + 8 }) = record { parts = t; at = refl; bytes = bytes_behind (magic ++ 49 ∷ []) b.0 (subst IsBytes t h); fits = refl } in
      subst (λ (p : ℕ × Cursor). Takes mark c p.0 p.1) (ok_is {F = CkptFault} (1, record { rest = b.0; at = c.at + 8 }) (v, d) b.2) here;
  again = λ v at rest h. ap (λ x. Ok (x, record { rest = rest; at = at + 8 })) (sym h);
}

pub head_is_form : IsForm head_form
head_is_form =
    told_form head_fields
    (λ p. record { time = p.1.0; last = p.1.1.0; graph = p.1.1.1 })
    (λ h. (1, (h.time, (h.last, h.graph))))
    (λ h. Unit {0})
    (λ p f. ap (λ n. (n, p.1)) (sym f.0)) (λ p f. tt) (λ h t. refl)
    (pair_form mark _ mark_is_form (λ v.
    pair_form time_field _ (only_form (field 8) is_time fault.Value (plain_form fault.Short 8)) (λ t.
    pair_form (last_field t) (λ l. text_form) (only_form (field 8) (λ l. nat_lt l t) fault.Value (plain_form fault.Short 8)) (λ l.
    counted_form fault.Short fault.Value 4 is_size (bytes fault.Short) (bytes_form fault.Short) (λ n xs h. h)))))

-- ---- the body

key_is_form : (w : Wiring) (count : ℕ) → IsForm (key_form w count)
key_is_form w count =
    told_form (key_fields w count) (λ p. record { time = p.0; class = p.1.0; line = p.1.1 }) (λ k. (k.time, (k.class, k.line))) (λ k. Unit {0})
    (λ p f. refl) (λ p f. tt) (λ k t. refl)
    (pair_form (field 8) (λ t. _) (plain_form fault.Short 8) (λ t.
    pair_form class_field (line_field w count) (only_form (field 1) is_class fault.Value (plain_form fault.Short 1)) (λ k.
    only_form (field 4) (λ l. is_reached count (target_of w k l)) fault.Value (plain_form fault.Short 4))))

module _ {S L : Type 0} (saving : Saving S L) (states : (first : S) → IsForm (state_form saving first)) (loads : (x : S) → IsForm (load_form saving x)) where
  load_by_form : (o : Option S) → IsForm (load_by saving o)
  load_by_form None = never_form fault.Form
  load_by_form (Some x) = some_form (lifted fault_of (load_form saving x)) (lifted_form fault_of (load_form saving x) (loads x))

  module _ (w : Wiring) (xs : List S) where
    load_is_form : (k : Key) → IsForm (load_at saving w xs k)
    load_is_form k = choose_form (eqb k.class 2) (load_by saving (receiver xs (target_of w k.class k.line))) (nothing None) (load_by_form (receiver xs (target_of w k.class k.line))) (nothing_form None)

    event_is_form : (before : Option Key) → IsForm (event_form saving w xs before)
    event_is_form before =
        told_form (event_fields saving w xs before) (λ p. record { key = p.0; load = p.1 }) (λ e. (e.key, e.load)) (λ e. Unit {0})
        (λ p f. refl) (λ p f. tt) (λ e t. refl)
        (pair_form (sorted_key w (length xs) before) (load_at saving w xs) (only_form (key_form w (length xs)) (not_after before) fault.Order (key_is_form w (length xs))) load_is_form)

    events_are_form : (n : ℕ) (before : Option Key) → IsForm (events_form saving w xs n before)
    events_are_form zero before = nothing_form []
    events_are_form (suc n) before = cons_form (event_form saving w xs before) (λ e. events_form saving w xs n (Some e.key)) (event_is_form before) (λ e. events_are_form n (Some e.key))

    events_long : (n : ℕ) (before : Option Key) (es : List (Event L)) → (events_form saving w xs n before).Fits es → length es ≡ n
    events_long zero before es h = ap length h
    events_long (suc n) before [] h = absurd h
    events_long (suc n) before (e ∷ es) h = ap suc (events_long n (Some e.key) es h.1)

    pending_is_form : IsForm (pending_form saving w xs)
    pending_is_form = counted_form fault.Short fault.Value 4 (λ n. true) (λ n. events_form saving w xs n None) (λ n. events_are_form n None) (λ n es h. events_long n None es h)

  states_are_form : (firsts : List S) → IsForm (states_form saving firsts)
  states_are_form firsts = each_as_form saving.spell (λ x. lifted fault_of (state_form saving x)) (λ y x h. refl) (λ y. lifted_form fault_of (state_form saving y) (states y)) firsts

  pub body_is_form : (w : Wiring) (firsts : List S) → IsForm (body_form saving w firsts)
  body_is_form w firsts = pair_form (states_form saving firsts) (pending_form saving w) (states_are_form firsts) (pending_is_form w)

  body_by_form : (o : Option (List S × Wiring)) → IsForm (body_by saving o)
  body_by_form None = never_form fault.Form
  body_by_form (Some m) = body_is_form m.1 m.0

  pub checkpoint_is_form : (makes : List ℕ → Option (List S × Wiring)) → IsForm (checkpoint_form saving makes)
  checkpoint_is_form makes =
      pair_form (judged_head saving makes) (λ h. body_by saving (makes h.graph))
      (only_form head_form (λ h. is_some (makes h.graph)) (λ at. fault.Value (at + 28)) head_is_form) (λ h. body_by_form (makes h.graph))
