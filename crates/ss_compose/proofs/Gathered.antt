-- What is gathered from pieces, and sorted.
use Rattle.std.proofs.Common.{◌≡◌, ℕ, zero, suc, ◌+◌, ◌<◌, List, [], ◌∷◌, ◌++◌, length, map, max, take, get_or, Bool, true, false, cond, ltb, refl, sym, ap, ◌∙◌, arith, append_assoc, append-nil, Bor, Some}
use Rattle.std.specs.Prelude.{slice_get}
use Rattle.std.specs.Global.{Vec}
use Rattle.std.specs.List.{flat_map}
use Rattle.std.proofs.lemmas.Grind.{flat_map-append}
use Rattle.std.proofs.lemmas.List.{take_more}
use Rattle.std.proofs.lemmas.List.Concat.{flat_map-cons}
use Rattle.ss_theory.proofs.Lists.{filter_append}
use Rattle.ss_model.specs.declared.Key.{Key}
use Rattle.ss_model.specs.Order.{key_before}
use Rattle.ss_graph.specs.declared.graph.Graph.{Graph}
use Rattle.ss_theory.specs.Queue.{insert_all, by}
use Rattle.ss_shares.specs.Shares.{owns, stranges}
use Rattle.ss_piece.specs.declared.Piece.{Piece}
use Rattle.ss_piece.specs.Pieces.{Slip, slip, state_text, event_text}
use Rattle.ss_compose.specs.Compose.{key_of, number_of, is_received, agrees, picked_of, picked, share_of, joined, all_events, all_states, last_of}
use Rattle.ss_compose.proofs.Sorting.{insert_all_map}

pub map_append : {A B : Type 0} (f : A → B) (xs ys : List A) → map f (xs ++ ys) ≡ map f xs ++ map f ys
map_append f [] ys = refl
map_append f (x ∷ xs) ys = ap (λ l. f x ∷ l) (map_append f xs ys)

pub map_more : {A B : Type 0} (f : A → B) (xs : List A) (i : ℕ) (x d : A) → i < length xs → get_or xs i d ≡ x → map f (take (i + 1) xs) ≡ map f (take i xs) ++ f x ∷ []
map_more f xs i x d lt e =
    ap (map f) (take_more xs i d lt ∙ ap (λ y. take i xs ++ y ∷ []) e)
    ∙ map_append f (take i xs) (x ∷ [])

-- one more of a list, each of which adds some
pub flat_more : {A B C : Type 0} (g : B → List C) (f : A → B) (xs : List A) (i : ℕ) (x d : A) → i < length xs → get_or xs i d ≡ x → flat_map g (map f (take (i + 1) xs)) ≡ flat_map g (map f (take i xs)) ++ g (f x)
flat_more g f xs i x d lt e =
    ap (flat_map g) (map_more f xs i x d lt e)
    ∙ flat_map-append g (map f (take i xs)) (f x ∷ [])
    ∙ ap (λ l. flat_map g (map f (take i xs)) ++ l) (flat_map-cons g (f x) [] ∙ append-nil (g (f x)))

pub flat_on : {A B C : Type 0} (g : B → List C) (f : A → B) (xs : List A) (i : ℕ) (x d : A) (start old new : List C) → i < length xs → get_or xs i d ≡ x → new ≡ old ++ g (f x) → old ≡ start ++ flat_map g (map f (take i xs)) → new ≡ start ++ flat_map g (map f (take (i + 1) xs))
flat_on g f xs i x d start old new lt e added so_far =
    added
    ∙ ap (λ l. l ++ g (f x)) so_far
    ∙ append_assoc start (flat_map g (map f (take i xs))) (g (f x))
    ∙ ap (λ l. start ++ l) (sym (flat_more g f xs i x d lt e))

-- ---- one pass

module _ (g : Graph) (own : Bool) (states : List (ℕ × List ℕ)) where
  abbrev pub Seen : Type 0
  Seen = List (Key × List ℕ)

  pub picks : (events : List (Key × Vec ℕ)) (i : ℕ) (x d : Key × Vec ℕ) (wanted : Bool) (start old new : Seen) → i < length events → get_or events i d ≡ x → wanted ≡ agrees own (is_received g states x.0) → new ≡ old ++ cond wanted (event_text x ∷ []) [] →
      old ≡ start ++ picked_of g own states (map event_text (take i events)) → new ≡ start ++ picked_of g own states (map event_text (take (i + 1) events))
  picks events i x d wanted start old new lt e h added so_far =
      let front = map event_text (take i events) in
      added
      ∙ ap (λ l. l ++ cond wanted (event_text x ∷ []) []) so_far
      ∙ append_assoc start (picked_of g own states front) (cond wanted (event_text x ∷ []) [])
      ∙ ap (λ b. start ++ (picked_of g own states front ++ cond b (event_text x ∷ []) [])) h
      ∙ ap (λ l. start ++ l) (sym (filter_append (λ y. agrees own (is_received g states y.0)) front (event_text x ∷ [])))
      ∙ ap (λ l. start ++ picked_of g own states l) (sym (map_more event_text events i x d lt e))

-- the piece at a place, as data
pub slip_at : (ps : List Piece) (i : ℕ) (p d : Piece) → i < length ps → get_or ps i d ≡ p → slice_get (map slip ps) i ≡ Some (slip p)
slip_at [] i p d lt e = absurd (omega arith)
slip_at (q ∷ ps) zero p d lt e = ap (λ x. Some (slip x)) e
slip_at (q ∷ ps) (suc i) p d lt e = slip_at ps i p d (omega arith) e

-- ---- sorted

picked_owns : (g : Graph) (ss : List Slip) → flat_map (picked g true) ss ≡ owns key_of key_before (map (share_of g) ss)
picked_owns g [] = refl
picked_owns g (s ∷ ss) = flat_map-cons (picked g true) s ss ∙ ap (λ l. picked g true s ++ l) (picked_owns g ss)

picked_stranges : (g : Graph) (ss : List Slip) → flat_map (picked g false) ss ≡ stranges key_of key_before (map (share_of g) ss)
picked_stranges g [] = refl
picked_stranges g (s ∷ ss) = flat_map-cons (picked g false) s ss ∙ ap (λ l. picked g false s ++ l) (picked_stranges g ss)

pub merged_texts : (g : Graph) (ss : List Slip) (first old new : List (Bor (Key × Vec ℕ))) →
    map (λ e. event_text e.now) first ≡ flat_map (picked g true) ss →
    map (λ e. event_text e.now) old ≡ map (λ e. event_text e.now) first ++ flat_map (picked g false) ss →
    new ≡ insert_all (by (λ e. e.now.0) key_before) old [] →
    map (λ e. event_text e.now) new ≡ all_events g ss
merged_texts g ss first old new h k m =
    ap (map (λ e. event_text e.now)) m
    ∙ sym (insert_all_map (λ (e : Bor (Key × Vec ℕ)). e.now.0) key_of (λ e. event_text e.now) (λ e. refl) key_before old [])
    ∙ ap (λ l. insert_all (by key_of key_before) l [])
    (k
    ∙ ap (λ l. l ++ flat_map (picked g false) ss) (h ∙ picked_owns g ss)
    ∙ ap (λ l. owns key_of key_before (map (share_of g) ss) ++ l) (picked_stranges g ss))

pub sorted_states : (ss : List Slip) (old new : List (Bor (ℕ × Vec ℕ))) →
    map (λ x. state_text x.now) old ≡ joined ss →
    new ≡ insert_all (by (λ x. x.now.0) ltb) old [] →
    map (λ x. state_text x.now) new ≡ all_states ss
sorted_states ss old new h m =
    ap (map (λ x. state_text x.now)) m
    ∙ sym (insert_all_map (λ (x : Bor (ℕ × Vec ℕ)). x.now.0) number_of (λ x. state_text x.now) (λ x. refl) ltb old [])
    ∙ ap (λ l. insert_all (by number_of ltb) l []) h

-- ---- the last time

last_append : (ss : List Slip) (s : Slip) → last_of (ss ++ s ∷ []) ≡ max s.last (last_of ss)
last_append [] s = refl
last_append (x ∷ ss) s = let ih : last_of (ss ++ s ∷ []) ≡ max s.last (last_of ss) = last_append ss s in ap (max x.last) ih ∙ swapped x.last s.last (last_of ss)
  where
    swapped : (a b c : ℕ) → max a (max b c) ≡ max b (max a c)
    swapped a b c = omega arith

pub last_more : (ps : List Piece) (i : ℕ) (p d : Piece) → i < length ps → get_or ps i d ≡ p → last_of (map slip (take (i + 1) ps)) ≡ max p.last (last_of (map slip (take i ps)))
last_more ps i p d lt e = ap last_of (map_more slip ps i p d lt e) ∙ last_append (map slip (take i ps)) (slip p)
