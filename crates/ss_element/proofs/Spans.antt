-- Rows that stand behind each other: what is found in them, and what stays where one of them moves.
use Rattle.std.proofs.Common.{◌≡◌, ◌≢◌, ℕ, ◌+◌, ◌<◌, ◌≤◌, Bool, true, false, ◌&&◌, eqb, List, [], ◌∷◌, length, take, drop, get_or, set, not, is_some, Option, Some, None, ◌⊎◌, inl, inr, refl, sym, ap, ◌∙◌, subst, arith, zero, suc}
use Rattle.std.proofs.lemmas.Grind.{common_steps}
use Rattle.std.proofs.lemmas.Bool.{cases_lt, cases_eq}
use Rattle.std.proofs.lemmas.Bool.Decides.{nat_tests}
use Rattle.ss_element.proofs.Places.{nothing}
use Rattle.std.proofs.lemmas.List.{get_or-take, get_or-drop, get_or_past, length-take, length-drop, get_or-set_same, get_or-set_other, get_or_read}
use Rattle.ss_element.specs.declared.table.Span.{Span}
use Rattle.ss_element.specs.Index.{slot, row, at, first_of, only_if}
use Rattle.ss_element.specs.Spans.{span, within, rows, AreApart, IsCopied}

abbrev pub row_of : {X : Type 0} → List (Option X) → Span → List (Option X)
row_of slots s = take s.room (drop s.start slots)

-- a row is that of the span, also past the last
pub row_is : {X : Type 0} (slots : List (Option X)) (spans : List Span) (c : ℕ) → row (rows slots spans) c ≡ row_of slots (span spans c)
row_is slots [] c = refl
row_is slots (s ∷ spans) zero = refl
row_is slots (s ∷ spans) (suc c) = row_is slots spans c

-- what a span has, inside and past its room
pub within_room : {X : Type 0} (slots : List (Option X)) (s : Span) (i : ℕ) → i < s.room → within slots s i ≡ slot slots (s.start + i)
within_room slots s i h = grind (arith, nat_tests)

pub past_room : {X : Type 0} (slots : List (Option X)) (s : Span) (i : ℕ) → s.room ≤ i → within slots s i ≡ None
past_room slots s i h = grind (arith, nat_tests)

in_row : {X : Type 0} (slots : List (Option X)) (s : Span) (i : ℕ) → slot (row_of slots s) i ≡ within slots s i
in_row slots s i = grind (arith, nat_tests, common_steps, get_or_past, get_or-take, get_or-drop, length-take)

-- what a table has, by spans
pub at_is : {X : Type 0} (slots : List (Option X)) (spans : List Span) (c i : ℕ) → at (rows slots spans) c i ≡ within slots (span spans c) i
at_is slots spans c i = ap (λ xs. slot xs i) (row_is slots spans c) ∙ in_row slots (span spans c) i

-- how long a row is
pub row_length : {X : Type 0} (slots : List (Option X)) (spans : List Span) (c : ℕ) → AreApart (length slots) spans → length (row (rows slots spans) c) ≡ (span spans c).room
row_length slots spans c h =
    let inside : (span spans c).start + (span spans c).room ≤ length slots = h.inside c in
    ap length (row_is slots spans c) ∙ simp (length-take, length-drop) (omega arith)

pub row_room : {X : Type 0} (slots : List (Option X)) (spans : List Span) (c i : ℕ) → AreApart (length slots) spans → i < length (row (rows slots spans) c) → i < (span spans c).room
row_room slots spans c i h l = subst (λ n. i < n) (row_length slots spans c h) l

-- a component with room has a span
pub has_span : (spans : List Span) (c i : ℕ) → i < (span spans c).room → c < length spans
has_span [] c i h = absurd (omega arith)
has_span (s ∷ spans) zero i h = omega arith
has_span (s ∷ spans) (suc c) i h = let l = has_span spans c i h in omega arith

-- spans that stay, while slots come behind the others
stays : {X : Type 0} (old new : List (Option X)) → ((i : ℕ) → i < length old → slot new i ≡ slot old i) → (s : Span) → s.start + s.room ≤ length old → (i : ℕ) → within new s i ≡ within old s i
stays old new kept s inside i = elim (cases_lt i s.room) [
  | inl h ↦ within_room new s i h ∙ kept (s.start + i) (omega arith) ∙ sym (within_room old s i h)
  | inr h ↦ past_room new s i h ∙ sym (past_room old s i h)
]

pub rows_stay : {X : Type 0} (old new : List (Option X)) (before after : List Span) → ((i : ℕ) → i < length old → slot new i ≡ slot old i) → AreApart (length old) before → ((c : ℕ) → span after c ≡ span before c) → (c i : ℕ) → at (rows new after) c i ≡ at (rows old before) c i
rows_stay old new before after kept h same c i = at_is new after c i ∙ ap (λ s. within new s i) (same c) ∙ stays old new kept (span before c) (h.inside c) i ∙ sym (at_is old before c i)

pub apart_still : (n m : ℕ) (before after : List Span) → AreApart n before → n ≤ m → ((c : ℕ) → span after c ≡ span before c) → AreApart m after
apart_still n m before after h le same = record {
  inside = λ c. (let inside : (span before c).start + (span before c).room ≤ n = h.inside c in subst (λ s. s.start + s.room ≤ m) (sym (same c)) (omega arith));
  apart = λ c d i j in_c in_d e. h.apart c d i j (subst (λ s. i < s.room) (same c) in_c) (subst (λ s. j < s.room) (same d) in_d) (sym (ap (λ s. s.start + i) (same c)) ∙ e ∙ ap (λ s. s.start + j) (same d));
}

-- a span that moves behind all slots
abbrev pub to : ℕ → ℕ → Span
to n room = record { start = n; room = room }

landed : (spans : List Span) (c₀ : ℕ) (s : Span) → c₀ < length spans → (c : ℕ) → ((c ≡ c₀) × (span (set spans c₀ s) c ≡ s)) ⊎ (span (set spans c₀ s) c ≡ span spans c)
landed spans c₀ s there c = elim (cases_eq c c₀) [
  | inl e ↦ inl (e, subst (λ k. span (set spans c₀ s) k ≡ s) (sym e) (get_or-set_same spans c₀ s _ there))
  | inr ne ↦ inr (get_or-set_other spans c₀ c s _ ne)
]

copied_is : {X : Type 0} (old new : List (Option X)) (from : Span) (room : ℕ) → from.room ≤ room → IsCopied from room old new → (i : ℕ) → within new (to (length old) room) i ≡ within old from i
copied_is old new from room more copied i = elim (cases_lt i room) [
  | inl h ↦ within_room new (to (length old) room) i h ∙ copied.slots i h
  | inr h ↦ past_room new (to (length old) room) i h ∙ sym (past_room old from i (omega arith))
]

pub set_span : (spans : List Span) (c : ℕ) (s : Span) → c < length spans → s ≡ span (set spans c s) c
set_span spans c s there = sym (get_or-set_same spans c s _ there)

pub rows_moved : {X : Type 0} (old new : List (Option X)) (spans : List Span) (from : Span) (c₀ room : ℕ) → AreApart (length old) spans → ((i : ℕ) → i < length old → slot new i ≡ slot old i) → from ≡ span spans c₀ → c₀ < length spans → from.room ≤ room → IsCopied from room old new → (c i : ℕ) → at (rows new (set spans c₀ (to (length old) room))) c i ≡ at (rows old spans) c i
rows_moved old new spans from c₀ room h kept is there more copied c i =
    let after = set spans c₀ (to (length old) room) in
    let found : within new (span after c) i ≡ within old (span spans c) i = elim (landed spans c₀ (to (length old) room) there c) [
      | inl p ↦ ap (λ s. within new s i) p.1 ∙ copied_is old new from room more copied i ∙ ap (λ s. within old s i) (is ∙ sym (ap (λ k. span spans k) p.0))
      | inr e ↦ ap (λ s. within new s i) e ∙ stays old new kept (span spans c) (h.inside c) i
    ] in
    at_is new after c i ∙ found ∙ sym (at_is old spans c i)

pub apart_moved : (n m : ℕ) (spans : List Span) (c₀ room : ℕ) → AreApart n spans → c₀ < length spans → m ≡ n + room → AreApart m (set spans c₀ (to n room))
apart_moved n m spans c₀ room h there e =
    let after = set spans c₀ (to n room) in
    let at = landed spans c₀ (to n room) there in
    let below : (c i : ℕ) → span after c ≡ span spans c → i < (span after c).room → (span after c).start + i < n =
    λ c i same in_c. (let inside : (span spans c).start + (span spans c).room ≤ n = h.inside c in
    let start : (span after c).start ≡ (span spans c).start = ap (λ s. s.start) same in
    let room_is : (span after c).room ≡ (span spans c).room = ap (λ s. s.room) same in omega arith) in
    record {
      inside = λ c. elim (at c) [
        | inl p ↦ (subst (λ s. s.start + s.room ≤ m) (sym p.1) (omega arith))
        | inr same ↦ (let inside : (span spans c).start + (span spans c).room ≤ n = h.inside c in subst (λ s. s.start + s.room ≤ m) (sym same) (omega arith))
      ];
      apart = λ c d i j in_c in_d e. elim (at c) [
        | inl p ↦ elim (at d) [
          | inl q ↦ p.0 ∙ sym q.0
          | inr same ↦ (let start : (span after c).start ≡ n = ap (λ s. s.start) p.1 in let low = below d j same in_d in absurd (omega arith))
        ]
        | inr same ↦ elim (at d) [
          | inl q ↦ (let start : (span after d).start ≡ n = ap (λ s. s.start) q.1 in let low = below c i same in_c in absurd (omega arith))
          | inr same_d ↦ h.apart c d i j (subst (λ s. i < s.room) same in_c) (subst (λ s. j < s.room) same_d in_d) (sym (ap (λ s. s.start + i) same) ∙ e ∙ ap (λ s. s.start + j) same_d)
        ]
      ];
    }

-- one slot that is filled
here : (c i : ℕ) → (eqb c c && eqb i i) ≡ true
here c i = grind (arith, nat_tests)

elsewhere : (c₀ c i₀ i : ℕ) → (c₀ ≡ c → i₀ ≡ i → ⊥) → (eqb c₀ c && eqb i₀ i) ≡ false
elsewhere c₀ c i₀ i ne = grind (arith, nat_tests, ne)

pub rows_filled : {X : Type 0} (old : List (Option X)) (spans : List Span) (c₀ i₀ : ℕ) (x : X) (y : Option X) → AreApart (length old) spans → i₀ < (span spans c₀).room → y ≡ first_of (slot old ((span spans c₀).start + i₀)) (Some x) → (c i : ℕ) → at (rows (set old ((span spans c₀).start + i₀) y) spans) c i ≡ first_of (at (rows old spans) c i) (only_if (eqb c₀ c && eqb i₀ i) x)
rows_filled old spans c₀ i₀ x y h room is c i =
    let p = (span spans c₀).start + i₀ in
    let inside : (span spans c₀).start + (span spans c₀).room ≤ length old = h.inside c₀ in
    let new = set old p y in
    let other : (c₀ ≡ c → i₀ ≡ i → ⊥) → within new (span spans c) i ≡ within old (span spans c) i =
    λ ne. elim (cases_lt i (span spans c).room) [
      | inl l ↦ (let far : (span spans c).start + i ≢ p = λ e. (let same : c ≡ c₀ = h.apart c c₀ i i₀ l room e in let start : (span spans c).start ≡ (span spans c₀).start = ap (λ k. (span spans k).start) same in ne (sym same) (omega arith)) in
          within_room new (span spans c) i l ∙ get_or-set_other old p ((span spans c).start + i) y None far ∙ sym (within_room old (span spans c) i l))
      | inr l ↦ past_room new (span spans c) i l ∙ sym (past_room old (span spans c) i l)
    ] in
    let untouched : (c₀ ≡ c → i₀ ≡ i → ⊥) → at (rows new spans) c i ≡ first_of (at (rows old spans) c i) (only_if (eqb c₀ c && eqb i₀ i) x) =
    λ ne. at_is new spans c i ∙ other ne ∙ sym (at_is old spans c i) ∙ nothing (at (rows old spans) c i) ∙ ap (λ b. first_of (at (rows old spans) c i) (only_if b x)) (sym (elsewhere c₀ c i₀ i ne)) in
    let touched : at (rows new spans) c₀ i₀ ≡ first_of (at (rows old spans) c₀ i₀) (only_if (eqb c₀ c₀ && eqb i₀ i₀) x) =
    at_is new spans c₀ i₀ ∙ within_room new (span spans c₀) i₀ room ∙ get_or-set_same old p y None (omega arith) ∙ is ∙ ap (λ o. first_of o (Some x)) (sym (at_is old spans c₀ i₀ ∙ within_room old (span spans c₀) i₀ room)) ∙ ap (λ b. first_of (at (rows old spans) c₀ i₀) (only_if b x)) (sym (here c₀ i₀)) in
    elim (cases_eq c₀ c) [
      | inl e ↦ elim (cases_eq i₀ i) [
        | inl f ↦ subst (λ k. at (rows new spans) k i ≡ first_of (at (rows old spans) k i) (only_if (eqb c₀ k && eqb i₀ i) x)) e (subst (λ j. at (rows new spans) c₀ j ≡ first_of (at (rows old spans) c₀ j) (only_if (eqb c₀ c₀ && eqb i₀ j) x)) f touched)
        | inr ne ↦ untouched (λ _ f. ne f)
      ]
      | inr ne ↦ untouched (λ e _. ne e)
    ]

-- what is written into a slot that has something, or has nothing
pub left : {X : Type 0} (now : Option X) (x : X) (b : Bool) → is_some now ≡ not b → b ≡ false → now ≡ first_of now (Some x)
left None x b e f = cc (e, ap not f)
left (Some y) x b e f = refl

pub put : {X : Type 0} (now : Option X) (x : X) (b : Bool) → is_some now ≡ not b → b ≡ true → Some x ≡ first_of now (Some x)
put None x b e f = refl
put (Some y) x b e f = cc (e, ap not f)

-- a span that was read
pub span_read : (spans : List Span) (c : ℕ) (s : Span) → c < length spans → s ≡ get_or spans c s → s ≡ span spans c
span_read spans c s l e = get_or_read spans c s l e _

pub fill_is : {X : Type 0} (old : List (Option X)) (spans : List Span) (view : List (List (Option X))) (s : Span) (c₀ i₀ j : ℕ) (x : X) (now y : Option X) → AreApart (length old) spans → rows old spans ≡ view → i₀ < length (row view c₀) → s ≡ get_or spans c₀ s → j ≡ i₀ → now ≡ get_or old (s.start + j) now → y ≡ first_of now (Some x) → (c i : ℕ) → at (rows (set old (s.start + j) y) spans) c i ≡ first_of (at view c i) (only_if (eqb c₀ c && eqb i₀ i) x)
fill_is old spans view s c₀ i₀ j x now y h is l e f reads filled c i =
    let room : i₀ < (span spans c₀).room = row_room old spans c₀ i₀ h (subst (λ v. i₀ < length (row v c₀)) (sym is) l) in
    let start : s.start ≡ (span spans c₀).start = ap (λ r. r.start) (span_read spans c₀ s (has_span spans c₀ i₀ room) e) in
    let inside : (span spans c₀).start + (span spans c₀).room ≤ length old = h.inside c₀ in
    let place : s.start + j ≡ (span spans c₀).start + i₀ = omega arith in
    let found : now ≡ slot old ((span spans c₀).start + i₀) = get_or_read old (s.start + j) now (omega arith) reads None ∙ ap (λ k. slot old k) place in
    ap (λ p. at (rows (set old p y) spans) c i) place ∙ rows_filled old spans c₀ i₀ x y h room (filled ∙ ap (λ o. first_of o (Some x)) found) c i ∙ ap (λ v. first_of (at v c i) (only_if (eqb c₀ c && eqb i₀ i) x)) is

-- how wide a row is whose span was read
pub wide : {X : Type 0} (slots : List (Option X)) (spans : List Span) (c i : ℕ) (s : Span) → AreApart (length slots) spans → s ≡ span spans c → i < s.room → i < length (row (rows slots spans) c)
wide slots spans c i s h e l = subst (λ n. i < n) (ap (λ r. r.room) e ∙ sym (row_length slots spans c h)) l
