-- What a sink has taken after several pieces.
use Rattle.std.proofs.Common.{◌≡◌, ℕ, zero, suc, ◌+◌, ◌≤◌, List, [], ◌∷◌, ◌++◌, length, take, drop, Option, Some, None, refl, ap, sym, ◌∙◌, arith, append_assoc}
use Rattle.std.proofs.lemmas.Grind.{common_steps}
use Rattle.std.proofs.lemmas.List.{append-nil, take-append-drop}
use Rattle.ss_edge.specs.Edge.{more, Rose, TookSome}

pub more-nothing : (o : Option (List ℕ)) → more [] o ≡ o
more-nothing None = refl
more-nothing (Some t) = ap Some (append-nil t)

pub more-more : (a b : List ℕ) (o : Option (List ℕ)) → more b (more a o) ≡ more (a ++ b) o
more-more a b None = refl
more-more a b (Some t) = ap Some (append_assoc t a b)

pub take-both : (a n : ℕ) (s : List ℕ) → take a s ++ take n (drop a s) ≡ take (a + n) s
take-both zero n s = let e : 0 + n ≡ n = omega arith in rw e refl
take-both (suc a) n [] = grind (arith, common_steps)
take-both (suc a) n (x ∷ s) = let e : suc a + n ≡ suc (a + n) = omega arith in rw e (ap (λ t. x ∷ t) (take-both a n s))

pub more-take : (s : List ℕ) (at n : ℕ) (o : Option (List ℕ)) → more (take n (drop at s)) (more (take at s) o) ≡ more (take (at + n) s) o
more-take s at n o = more-more (take at s) (take n (drop at s)) o ∙ ap (λ x. more x o) (take-both at n s)

-- the same for a piece that is cut as the code cuts it
pub more-piece : (s : List ℕ) (at n k : ℕ) (o : Option (List ℕ)) → length s ≤ at + k → more (take n (take k (drop at s))) (more (take at s) o) ≡ more (take (at + n) s) o
more-piece s at n k o h = let e : take k (drop at s) ≡ drop at s = grind (arith, common_steps) in rw e (more-take s at n o)

pub more-none : (s : List ℕ) (o : Option (List ℕ)) → more (take 0 s) o ≡ o
more-none s o = more-nothing o

pub more-all : (s : List ℕ) (n : ℕ) (o : Option (List ℕ)) → length s ≤ n → more (take n s) o ≡ more s o
more-all s n o h = ap (λ x. more x o) (grind (arith, common_steps))

-- a count that rose between two moments that lie between two others
pub rose-between : (a b c d : ℕ) → a ≤ b → b ≤ c → Rose b c → c ≤ d → Rose a d
rose-between a b c d h m r l = grind arith

pub took-front : (s : List ℕ) (at : ℕ) (before after : Option (List ℕ)) → after ≡ more (take at s) before → TookSome s before after
took-front s at before after e = record { front = take at s; rest = drop at s; whole = sym (take-append-drop at s); took = e }

pub ruleset writing = (more-take, more-none, more-all, rose-between, more-nothing, took-front)
