-- Marks of numbers.
use Rattle.std.proofs.Common.{◌≡◌, ◌≢◌, ◌==◌, ℕ, zero, suc, ◌+◌, ◌<◌, List, [], ◌∷◌, ◌++◌, length, take, get_or, set, replicate, Bool, true, false, not, ◌&&◌, ◌||◌, nat_lt, refl, sym, ap, ◌∙◌, subst, arith}
use Rattle.std.specs.List.{list_any}
use Rattle.std.proofs.lemmas.Bool.Decides.{nat_tests}
use Rattle.std.proofs.lemmas.List.{append-nil, get_or-set_same, get_or-set_other, take_more}
use Rattle.std.proofs.Math.ListN.{length-set}
use Rattle.ss_network.specs.declared.member.Member.{Member}
use Rattle.ss_network.specs.declared.member.Member.TheVariants as member
use Rattle.ss_network.specs.declared.ask.RouterAsk.{RouterAsk}
use Rattle.ss_network.specs.declared.ask.EndpointAsk.{EndpointAsk}
use Rattle.ss_network.specs.Network.{is_new, router_id, router_ids, endpoint_id, endpoint_ids}
use Rattle.ss_network.specs.Marks.{AreMarked}

-- a number that is new

new-by : (n id : ℕ) (ids : List ℕ) (marks : List Bool) (b : Bool) → nat_lt id n ≡ b → length marks ≡ n → AreMarked ids marks → (b && not (get_or marks id false)) ≡ (b && not (list_any (λ x. x == id) ids))
new-by n id ids marks true e l h =
    let m : id < length marks = grind (arith, nat_tests, e, l) in
    ap not (h id m)
new-by n id ids marks false e l h = refl

pub new_is : (n id : ℕ) (ids : List ℕ) (marks : List Bool) → length marks ≡ n → AreMarked ids marks → (nat_lt id (length marks) && not (get_or marks id false)) ≡ is_new n ids id
new_is n id ids marks l h = ap (λ (m : ℕ). nat_lt id m && not (get_or marks id false)) l ∙ new-by n id ids marks (nat_lt id n) refl l h

-- one more

any-end : (ids : List ℕ) (id k : ℕ) → list_any (λ x. x == k) (ids ++ id ∷ []) ≡ (list_any (λ x. x == k) ids || (id == k))
any-end [] id k = grind arith
any-end (x ∷ ids) id k = ap (λ (t : Bool). (x == k) || t) (any-end ids id k) ∙ or-assoc (x == k) (list_any (λ y. y == k) ids) (id == k)
  where
    or-assoc : (a b c : Bool) → (a || (b || c)) ≡ ((a || b) || c)
    or-assoc true b c = refl
    or-assoc false b c = refl

or-true : (a : Bool) → (a || true) ≡ true
or-true true = refl
or-true false = refl

or-false : (a : Bool) → (a || false) ≡ a
or-false true = refl
or-false false = refl

marked-by : (ids : List ℕ) (marks : List Bool) (id k : ℕ) (b : Bool) → (id == k) ≡ b → AreMarked ids marks → id < length marks → k < length marks → get_or (set marks id true) k false ≡ (list_any (λ x. x == k) ids || b)
marked-by ids marks id k true e h l m =
    let q : k ≡ id = grind (arith, e) in
    ap (λ (j : ℕ). get_or (set marks id true) j false) q ∙ get_or-set_same marks id true false l ∙ sym (or-true (list_any (λ x. x == k) ids))
marked-by ids marks id k false e h l m =
    let q : k ≢ id = grind (arith, e) in
    get_or-set_other marks id k true false q ∙ h k m ∙ sym (or-false (list_any (λ x. x == k) ids))

pub marks_more : (ids : List ℕ) (marks : List Bool) (id : ℕ) → AreMarked ids marks → id < length marks → AreMarked (ids ++ id ∷ []) (set marks id true)
marks_more ids marks id h l k m =
    let n : k < length marks = subst (λ (x : ℕ). k < x) (length-set marks id true) m in
    marked-by ids marks id k (id == k) refl h l n ∙ sym (any-end ids id k)

-- the numbers of components

ids-append : (xs ys : List Member) → router_ids (xs ++ ys) ≡ router_ids xs ++ router_ids ys
ids-append [] ys = refl
ids-append (member.Router r ∷ xs) ys = ap (λ (zs : List ℕ). r.id ∷ zs) (ids-append xs ys)
ids-append (member.Endpoint e ∷ xs) ys = ids-append xs ys
ids-append (member.Other ∷ xs) ys = ids-append xs ys

hosts-append : (xs ys : List Member) → endpoint_ids (xs ++ ys) ≡ endpoint_ids xs ++ endpoint_ids ys
hosts-append [] ys = refl
hosts-append (member.Router r ∷ xs) ys = hosts-append xs ys
hosts-append (member.Endpoint e ∷ xs) ys = ap (λ (zs : List ℕ). e.id ∷ zs) (hosts-append xs ys)
hosts-append (member.Other ∷ xs) ys = hosts-append xs ys

pub router_ids-more : (ms : List Member) (i : ℕ) (m : Member) → i < length ms → m ≡ get_or ms i m → router_ids (take (i + 1) ms) ≡ router_ids (take i ms) ++ router_id m
router_ids-more ms i m l e = ap router_ids (take_more ms i m l ∙ ap (λ (x : Member). take i ms ++ x ∷ []) (sym e)) ∙ ids-append (take i ms) (m ∷ []) ∙ ap (λ (xs : List ℕ). router_ids (take i ms) ++ xs) (append-nil (router_id m))

pub endpoint_ids-more : (ms : List Member) (i : ℕ) (m : Member) → i < length ms → m ≡ get_or ms i m → endpoint_ids (take (i + 1) ms) ≡ endpoint_ids (take i ms) ++ endpoint_id m
endpoint_ids-more ms i m l e = ap endpoint_ids (take_more ms i m l ∙ ap (λ (x : Member). take i ms ++ x ∷ []) (sym e)) ∙ hosts-append (take i ms) (m ∷ []) ∙ ap (λ (xs : List ℕ). endpoint_ids (take i ms) ++ xs) (append-nil (endpoint_id m))

-- after a component

pub router_marked : (ms : List Member) (i : ℕ) (r : RouterAsk) (m : Member) (marks : List Bool) → i < length ms → m ≡ get_or ms i m → m ≡ member.Router r → AreMarked (router_ids (take i ms)) marks → r.id < length marks → AreMarked (router_ids (take (i + 1) ms)) (set marks r.id true)
router_marked ms i r m marks l e q h k = subst (λ (xs : List ℕ). AreMarked xs (set marks r.id true)) (sym (router_ids-more ms i m l e ∙ ap (λ (x : Member). router_ids (take i ms) ++ router_id x) q)) (marks_more (router_ids (take i ms)) marks r.id h k)

pub endpoint_marked : (ms : List Member) (i : ℕ) (r : EndpointAsk) (m : Member) (marks : List Bool) → i < length ms → m ≡ get_or ms i m → m ≡ member.Endpoint r → AreMarked (endpoint_ids (take i ms)) marks → r.id < length marks → AreMarked (endpoint_ids (take (i + 1) ms)) (set marks r.id true)
endpoint_marked ms i r m marks l e q h k = subst (λ (xs : List ℕ). AreMarked xs (set marks r.id true)) (sym (endpoint_ids-more ms i m l e ∙ ap (λ (x : Member). endpoint_ids (take i ms) ++ endpoint_id x) q)) (marks_more (endpoint_ids (take i ms)) marks r.id h k)

pub router_kept : (ms : List Member) (i : ℕ) (m : Member) (marks : List Bool) → i < length ms → m ≡ get_or ms i m → router_id m ≡ [] → AreMarked (router_ids (take i ms)) marks → AreMarked (router_ids (take (i + 1) ms)) marks
router_kept ms i m marks l e q h = subst (λ (xs : List ℕ). AreMarked xs marks) (sym (router_ids-more ms i m l e ∙ ap (λ (xs : List ℕ). router_ids (take i ms) ++ xs) q ∙ append-nil (router_ids (take i ms)))) h

pub endpoint_kept : (ms : List Member) (i : ℕ) (m : Member) (marks : List Bool) → i < length ms → m ≡ get_or ms i m → endpoint_id m ≡ [] → AreMarked (endpoint_ids (take i ms)) marks → AreMarked (endpoint_ids (take (i + 1) ms)) marks
endpoint_kept ms i m marks l e q h = subst (λ (xs : List ℕ). AreMarked xs marks) (sym (endpoint_ids-more ms i m l e ∙ ap (λ (xs : List ℕ). endpoint_ids (take i ms) ++ xs) q ∙ append-nil (endpoint_ids (take i ms)))) h

-- none at first

replicate-false : (n k : ℕ) → get_or (replicate n false) k false ≡ false
replicate-false zero k = refl
replicate-false (suc n) zero = refl
replicate-false (suc n) (suc k) = replicate-false n k

pub fresh_marks : (marks : List Bool) (n : ℕ) → marks ≡ replicate n false → AreMarked [] marks
fresh_marks marks n e k l = ap (λ (bs : List Bool). get_or bs k false) e ∙ replicate-false n k
