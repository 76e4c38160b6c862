-- How many bytes pieces make.
use Rattle.std.proofs.Common.{◌≡◌, ℕ, ◌+◌, ◌^◌, ◌<◌, ◌≤◌, List, [], ◌∷◌, ◌++◌, length, map, take, get_or, min, Bool, not, ltb, refl, sym, ap, ◌∙◌, arith, inl, inr}
use Rattle.std.specs.Prelude.{sum_by}
use Rattle.std.specs.List.{filter, flat_map}
use Rattle.std.proofs.lemmas.Bool.{cases_Bool}
use Rattle.std.proofs.lemmas.List.{length-append}
use Rattle.std.proofs.lemmas.List.Sums.{sum_by-cons, sum_by-append}
use Rattle.std.proofs.lemmas.List.Filters.{sum_by-filter_both}
use Rattle.std.proofs.lemmas.List.Concat.{flat_map-cons, length-flat_map}
use Rattle.byteorder.specs.Numbers.{length-bytes_high_first}
use Rattle.ss_wire.specs.Form.{big_bytes}
use Rattle.ss_model.specs.declared.Key.{Key}
use Rattle.ss_model.specs.Order.{key_before}
use Rattle.ss_graph.specs.declared.graph.Graph.{Graph}
use Rattle.ss_theory.specs.Queue.{insert, insert_all, by}
use Rattle.ss_shares.specs.Shares.{owns, stranges}
use Rattle.ss_piece.specs.Pieces.{Slip}
use Rattle.ss_ckpt.specs.Spells.{head_text}
use Rattle.ss_compose.proofs.Gathered.{map_more}
use Rattle.ss_compose.specs.Compose.{key_of, number_of, bytes_of, event_bytes, share_of, is_received, joined, all_events, all_states, last_of, composed, slip_size}

module _ {X : Type 0} (f : X → ℕ) (lt : X → X → Bool) where
  sum_insert : (e : X) (xs : List X) → sum_by f (insert lt e xs) ≡ f e + sum_by f xs
  sum_insert e [] = sum_by-cons f e []
  sum_insert e (x ∷ xs) =
      elim (cases_Bool (lt e x)) [
        | inl c ↦ rw c (sum_by-cons f e (x ∷ xs))
        | inr c ↦
            let ih : sum_by f (insert lt e xs) ≡ f e + sum_by f xs = sum_insert e xs in
            let a : sum_by f (x ∷ insert lt e xs) ≡ f x + sum_by f (insert lt e xs) = sum_by-cons f x (insert lt e xs) in
            let b : sum_by f (x ∷ xs) ≡ f x + sum_by f xs = sum_by-cons f x xs in
            rw c (a ∙ ap (λ n. f x + n) ih ∙ swapped (f x) (f e) (sum_by f xs) ∙ ap (λ n. f e + n) (sym b))
      ]
    where
      swapped : (a b c : ℕ) → a + (b + c) ≡ b + (a + c)
      swapped a b c = omega arith

  sum_insert_all : (es xs : List X) → sum_by f (insert_all lt es xs) ≡ sum_by f es + sum_by f xs
  sum_insert_all [] xs = omega arith
  sum_insert_all (e ∷ es) xs =
      sum_insert_all es (insert lt e xs)
      ∙ ap (λ n. sum_by f es + n) (sum_insert e xs)
      ∙ swapped (sum_by f es) (f e) (sum_by f xs)
      ∙ ap (λ n. n + sum_by f xs) (sym (sum_by-cons f e es))
    where
      swapped : (a b c : ℕ) → a + (b + c) ≡ b + a + c
      swapped a b c = omega arith

-- the events of all pieces
both : (g : Graph) (f : Key × List ℕ → ℕ) (ss : List Slip) → sum_by f (owns key_of key_before (map (share_of g) ss)) + sum_by f (stranges key_of key_before (map (share_of g) ss)) ≡ sum_by (λ s. sum_by f s.events) ss
both g f [] = refl
both g f (s ∷ ss) =
    let mine = filter (λ (e : Key × List ℕ). is_received g s.states e.0) s.events in
    let others = filter (λ (e : Key × List ℕ). not (is_received g s.states e.0)) s.events in
    let o = owns key_of key_before (map (share_of g) ss) in
    let t = stranges key_of key_before (map (share_of g) ss) in
    let here : sum_by f mine + sum_by f others ≡ sum_by f s.events = sum_by-filter_both (λ (e : Key × List ℕ). is_received g s.states e.0) (λ e. not (is_received g s.states e.0)) (λ e. refl) f s.events in
    ap (λ n. n + sum_by f (others ++ t)) (sum_by-append f mine o)
    ∙ ap (λ n. sum_by f mine + sum_by f o + n) (sum_by-append f others t)
    ∙ regroup (sum_by f mine) (sum_by f o) (sum_by f others) (sum_by f t)
    ∙ ap (λ n. n + (sum_by f o + sum_by f t)) here
    ∙ ap (λ n. sum_by f s.events + n) (both g f ss)
    ∙ sym (sum_by-cons (λ (x : Slip). sum_by f x.events) s ss)
  where
    regroup : (a b c d : ℕ) → a + b + (c + d) ≡ a + c + (b + d)
    regroup a b c d = omega arith

events_size : (g : Graph) (ss : List Slip) → length (flat_map event_bytes (all_events g ss)) ≡ sum_by (λ s. sum_by (λ e. length (event_bytes e)) s.events) ss
events_size g ss =
    let f = λ (e : Key × List ℕ). length (event_bytes e) in
    let o = owns key_of key_before (map (share_of g) ss) in
    let t = stranges key_of key_before (map (share_of g) ss) in
    length-flat_map event_bytes (all_events g ss)
    ∙ sum_insert_all f (by key_of key_before) (o ++ t) []
    ∙ nothing (sum_by f (o ++ t))
    ∙ sum_by-append f o t
    ∙ both g f ss
  where
    nothing : (a : ℕ) → a + 0 ≡ a
    nothing a = omega arith

joined_size : (ss : List Slip) → sum_by (λ x. length (bytes_of x)) (joined ss) ≡ sum_by (λ s. sum_by (λ x. length (bytes_of x)) s.states) ss
joined_size [] = refl
joined_size (s ∷ ss) =
    let f = λ (x : ℕ × List ℕ). length (bytes_of x) in
    ap (sum_by f) (flat_map-cons (λ (x : Slip). x.states) s ss)
    ∙ sum_by-append f s.states (joined ss)
    ∙ ap (λ n. sum_by f s.states + n) (joined_size ss)
    ∙ sym (sum_by-cons (λ (x : Slip). sum_by f x.states) s ss)

states_size : (ss : List Slip) → length (flat_map bytes_of (all_states ss)) ≡ sum_by (λ s. sum_by (λ x. length (bytes_of x)) s.states) ss
states_size ss =
    let f = λ (x : ℕ × List ℕ). length (bytes_of x) in
    length-flat_map bytes_of (all_states ss)
    ∙ sum_insert_all f (by number_of ltb) (joined ss) []
    ∙ nothing (sum_by f (joined ss))
    ∙ joined_size ss
  where
    nothing : (a : ℕ) → a + 0 ≡ a
    nothing a = omega arith

sizes : (ss : List Slip) → sum_by (λ s. sum_by (λ x. length (bytes_of x)) s.states) ss + sum_by (λ s. sum_by (λ e. length (event_bytes e)) s.events) ss ≡ sum_by slip_size ss
sizes [] = refl
sizes (s ∷ ss) =
    let a = λ (x : Slip). sum_by (λ y. length (bytes_of y)) x.states in
    let b = λ (x : Slip). sum_by (λ e. length (event_bytes e)) x.events in
    ap (λ n. n + sum_by b (s ∷ ss)) (sum_by-cons a s ss)
    ∙ ap (λ n. a s + sum_by a ss + n) (sum_by-cons b s ss)
    ∙ regroup (a s) (sum_by a ss) (b s) (sum_by b ss)
    ∙ ap (λ n. a s + b s + n) (sizes ss)
    ∙ sym (sum_by-cons slip_size s ss)
  where
    regroup : (a b c d : ℕ) → a + b + (c + d) ≡ a + c + (b + d)
    regroup a b c d = omega arith

head_size : (graph : List ℕ) (at last : ℕ) → length (head_text graph at last) ≡ 28 + length graph
head_size graph at last =
    let a = length-append (big_bytes 8 at) (big_bytes 8 last ++ (big_bytes 4 (length graph) ++ graph)) in
    let b = length-append (big_bytes 8 last) (big_bytes 4 (length graph) ++ graph) in
    let c = length-append (big_bytes 4 (length graph)) graph in
    let d = length-bytes_high_first 8 at in
    let e = length-bytes_high_first 8 last in
    let f = length-bytes_high_first 4 (length graph) in
    omega arith

-- all of it
pub composed_size : (g : Graph) (at : ℕ) (ss : List Slip) → length (composed g at ss) ≡ 32 + length g.text + sum_by slip_size ss
composed_size g at ss =
    let head = head_text g.text at (last_of ss) in
    let xs = flat_map bytes_of (all_states ss) in
    let count = big_bytes 4 (length (all_events g ss)) in
    let es = flat_map event_bytes (all_events g ss) in
    let a : length (head ++ (xs ++ (count ++ es))) ≡ length head + length (xs ++ (count ++ es)) = length-append head (xs ++ (count ++ es)) in
    let b : length (xs ++ (count ++ es)) ≡ length xs + length (count ++ es) = length-append xs (count ++ es) in
    let c : length (count ++ es) ≡ length count + length es = length-append count es in
    let d : length count ≡ 4 = length-bytes_high_first 4 (length (all_events g ss)) in
    let h : length head ≡ 28 + length g.text = head_size g.text at (last_of ss) in
    let m : length xs + length es ≡ sum_by slip_size ss = ap (λ n. n + length es) (states_size ss) ∙ ap (λ n. sum_by (λ s. sum_by (λ x. length (bytes_of x)) s.states) ss + n) (events_size g ss) ∙ sizes ss in
    omega (arith, a, b, c, d, h, m)

-- each event has some bytes
event_some : (e : Key × List ℕ) → length (event_bytes e) ≡ length e.1 + 13
event_some e =
    let a = length-append (big_bytes 8 e.0.time) (big_bytes 1 e.0.class ++ (big_bytes 4 e.0.line ++ e.1)) in
    let b = length-append (big_bytes 1 e.0.class) (big_bytes 4 e.0.line ++ e.1) in
    let c = length-append (big_bytes 4 e.0.line) e.1 in
    let d = length-bytes_high_first 8 e.0.time in
    let f = length-bytes_high_first 1 e.0.class in
    let h = length-bytes_high_first 4 e.0.line in
    omega arith

pub event_size : (e : Key × List ℕ) → length (event_bytes e) ≡ length e.1 + 13
event_size e = event_some e

few_events : (es : List (Key × List ℕ)) → length es ≤ length (flat_map event_bytes es)
few_events [] = omega arith
few_events (e ∷ es) =
    let a : flat_map event_bytes (e ∷ es) ≡ event_bytes e ++ flat_map event_bytes es = flat_map-cons event_bytes e es in
    let b : length (flat_map event_bytes (e ∷ es)) ≡ length (event_bytes e) + length (flat_map event_bytes es) = ap length a ∙ length-append (event_bytes e) (flat_map event_bytes es) in
    let c : length (event_bytes e) ≡ length e.1 + 13 = event_some e in
    let ih : length es ≤ length (flat_map event_bytes es) = few_events es in
    omega (arith, b, c, ih)

-- what is small has a short text and few events
pub small_parts : (g : Graph) (at : ℕ) (ss : List Slip) → length (composed g at ss) ≤ 2 ^ 30 → (length g.text < 2 ^ 32) × (length (all_events g ss) < 2 ^ 32)
small_parts g at ss h =
    let head = head_text g.text at (last_of ss) in
    let xs = flat_map bytes_of (all_states ss) in
    let count = big_bytes 4 (length (all_events g ss)) in
    let es = flat_map event_bytes (all_events g ss) in
    let a : length (head ++ (xs ++ (count ++ es))) ≡ length head + length (xs ++ (count ++ es)) = length-append head (xs ++ (count ++ es)) in
    let b : length (xs ++ (count ++ es)) ≡ length xs + length (count ++ es) = length-append xs (count ++ es) in
    let c : length (count ++ es) ≡ length count + length es = length-append count es in
    let k : length head ≡ 28 + length g.text = head_size g.text at (last_of ss) in
    let f : length (all_events g ss) ≤ length es = few_events (all_events g ss) in
    (omega (arith, a, h, k), omega (arith, a, b, c, h, f))

-- a sum that is kept within a bound goes on
pub counted : {A B : Type 0} (f : B → ℕ) (g : A → B) (xs : List A) (i : ℕ) (x d : A) (most total more new : ℕ) → i < length xs → get_or xs i d ≡ x → more ≡ f (g x) → total ≡ min (sum_by f (map g (take i xs))) most → new ≡ min (total + more) most → new ≡ min (sum_by f (map g (take (i + 1) xs))) most
counted f g xs i x d most total more new lt e added so_far is =
    let s = sum_by f (map g (take i xs)) in
    let one : sum_by f (map g (take (i + 1) xs)) ≡ s + f (g x)
    = ap (sum_by f) (map_more g xs i x d lt e)
    ∙ sum_by-append f (map g (take i xs)) (g x ∷ [])
    ∙ ap (λ n. s + n) (sum_by-cons f (g x) [] ∙ nothing (f (g x))) in
    is ∙ within s total more most so_far ∙ ap (λ n. min n most) (ap (λ n. s + n) added ∙ sym one)
  where
    nothing : (a : ℕ) → a + 0 ≡ a
    nothing a = omega arith

    within : (s t m b : ℕ) → t ≡ min s b → min (t + m) b ≡ min (s + m) b
    within s t m b h = omega arith

pub total_is : (text sum part all new most : ℕ) → part ≡ min sum most → all ≡ 32 + text + sum → new ≡ min (text + 32 + part) most → new ≡ min all most
total_is text sum part all new most p a n = omega (arith, p, a, n)
