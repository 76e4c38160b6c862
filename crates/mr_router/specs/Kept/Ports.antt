-- Ports that change one by one.
use Rattle.std.proofs.Common.{◌≡◌, ◌≢◌, ℕ, zero, suc, ◌-◌, ◌<◌, ◌≤◌, List, [], ◌∷◌, length, set, get_or, map, Option, None, Some, refl, sym, subst, arith}
use Rattle.std.specs.Prelude.{slice_get}
use Rattle.std.specs.List.{All}
use Rattle.std.proofs.lemmas.List.{length-set, get_or-set_same, get_or-set_other}
use Rattle.std.proofs.lemmas.List.Elements.{All-drop}
use Rattle.mr_flow.specs.declared.Packet.{Packet}
use Rattle.mr_flow.specs.Queue.{Row, row_at, head, rest}
use Rattle.mr_flow.specs.Side.{Side, channels, input, credits_at, sent, departed}
use Rattle.mr_flow.proofs.Sides.{each-set}
use Rattle.mr_router.specs.declared.settings.RouterSettings.{RouterSettings}
use Rattle.mr_router.specs.declared.port.Port.{Port}
use Rattle.mr_router.specs.Router.{no_port, port_at, width, port_pumped, given, received, changed}
use Rattle.mr_router.specs.Holding.{IsBound, AllBound, AllWithin}

-- one port changes, and each has its property still
pub ports-set : (P : ℕ → Port → Type 0) (ports : List Port) (i : ℕ) (q : Port) → ((k : ℕ) → P k (port_at ports k)) → P i q → (k : ℕ) → P k (port_at (set ports i q) k)
ports-set P [] i q all one k = all k
ports-set P (p ∷ ports) zero q all one zero = one
ports-set P (p ∷ ports) zero q all one (suc k) = all (suc k)
ports-set P (p ∷ ports) (suc i) q all one zero = all zero
ports-set P (p ∷ ports) (suc i) q all one (suc k) = ports-set (λ j. P (suc j)) ports i q (λ j. all (suc j)) one k

pub ports-changed : (P : ℕ → Port → Type 0) (ports : List Port) (i : ℕ) (f : Port → Port) → ((k : ℕ) → P k (port_at ports k)) → ((p : Port) → P i p → P i (f p)) → (k : ℕ) → P k (port_at (changed ports i f) k)
ports-changed P ports i f all one k = ports-set P ports i (f (port_at ports i)) all (one (port_at ports i) (all i)) k

pub length-changed : (ports : List Port) (i : ℕ) (f : Port → Port) → length (changed ports i f) ≡ length ports
length-changed ports i f = length-set ports i (f (port_at ports i))

pub changed_here : (ports : List Port) (i : ℕ) (f : Port → Port) → i < length ports → port_at (changed ports i f) i ≡ f (port_at ports i)
changed_here ports i f h = get_or-set_same ports i (f (port_at ports i)) no_port h

pub changed_else : (ports : List Port) (i k : ℕ) (f : Port → Port) → k ≢ i → port_at (changed ports i f) k ≡ port_at ports k
changed_else ports i k f h = get_or-set_other ports i k (f (port_at ports i)) no_port h

-- what a change leaves as it is
pub changed_same : {A : Type 0} (F : Port → A) (ports : List Port) (i o : ℕ) (f : Port → Port) → ((q : Port) → F (f q) ≡ F q) → F (port_at (changed ports i f) o) ≡ F (port_at ports o)
changed_same F ports i o f h = ports-set (λ k q. F q ≡ F (port_at ports k)) ports i (f (port_at ports i)) (λ k. refl) (h (port_at ports i)) o

-- a port that is there
pub there_is : (ports : List Port) (i : ℕ) (p : Port) → i < length ports → get_or ports i p ≡ port_at ports i
there_is [] i p h = absurd (omega arith)
there_is (q ∷ ports) zero p h = refl
there_is (q ∷ ports) (suc i) p h = there_is ports i p (omega arith)

-- the packet in front of a queue
pub front_bound : (P : Packet → Type 0) (q : Row) (p : Packet) → All P q.packets → head q ≡ Some p → P p
front_bound P q p all e = at_list q.packets all e
  where
    at_list : (ps : List Packet) → All P ps → slice_get ps 0 ≡ Some p → P p
    at_list [] a h = absurd cc
    at_list (x ∷ ps) a h = let same : x ≡ p = cc in subst P same (a 0 x (omega arith))

-- what comes in keeps to its bounds
taken_bound : (x : RouterSettings) (s : Side) (c : ℕ) → ((k : ℕ) → All (IsBound x) (input s k).packets) → (k : ℕ) → All (IsBound x) (row_at (set s.inputs c (rest (input s c))) k).packets
taken_bound x s c all k = each-set (λ (q : Row). All (IsBound x) q.packets) s.inputs c (rest (input s c)) all (All-drop (IsBound x) 1 (input s c).packets (all c)) k

pub given_bound : (x : RouterSettings) (now c : ℕ) (p : Packet) (ports : List Port) (i : ℕ) → AllBound x ports → AllBound x (changed ports i (given x now c p))
given_bound x now c p ports i all = ports-changed (λ k q. (j : ℕ) → All (IsBound x) (input q.line j).packets) ports i (given x now c p) all (λ q h. taken_bound x q.line c h)

pub received_bound : (x : RouterSettings) (now : ℕ) (p : Packet) (ports : List Port) (i : ℕ) → AllBound x ports → AllBound x (changed ports i (received x now p))
received_bound x now p ports i all = ports-changed (λ k q. (j : ℕ) → All (IsBound x) (input q.line j).packets) ports i (received x now p) all (λ q h. h)

-- ---- all ports at once

pub port_mapped : (P : ℕ → Port → Type 0) (f : Port → Port) (ports : List Port) → ((k : ℕ) → P k no_port) → ((k : ℕ) → P k (f (port_at ports k))) → (k : ℕ) → P k (port_at (map f ports) k)
port_mapped P f [] none all k = none k
port_mapped P f (p ∷ ports) none all zero = all 0
port_mapped P f (p ∷ ports) none all (suc k) = port_mapped (λ j. P (suc j)) f ports (λ j. none (suc j)) (λ j. all (suc j)) k

departed_inputs : (s : Side) (now : ℕ) (o : Option (ℕ × Packet × ℕ)) → (departed s now o).inputs ≡ s.inputs
departed_inputs s now None = refl
departed_inputs s now (Some (c, p, extra)) = refl

departed_channels : (s : Side) (now : ℕ) (o : Option (ℕ × Packet × ℕ)) → channels (departed s now o) ≡ channels s
departed_channels s now None = refl
departed_channels s now (Some (c, p, extra)) = length-set s.credits c (credits_at s c - p.flits)

pub pumped_bound : (x : RouterSettings) (now : ℕ) (ports : List Port) → AllBound x ports → AllBound x (map (port_pumped now) ports)
pumped_bound x now ports all = port_mapped (λ k q. (c : ℕ) → All (IsBound x) (input q.line c).packets) (port_pumped now) ports (λ k c j d l. absurd (omega (arith, l))) (λ k c. subst (λ (qs : List Row). All (IsBound x) (row_at qs c).packets) (sym (departed_inputs (port_at ports k).line now (sent (port_at ports k).line now))) (all k c))

pub pumped_within : (x : RouterSettings) (now : ℕ) (ports : List Port) → AllWithin x ports → AllWithin x (map (port_pumped now) ports)
pumped_within x now ports all = port_mapped (λ k q. channels q.line ≤ width x) (port_pumped now) ports (λ k. omega arith) (λ k. let e = departed_channels (port_at ports k).line now (sent (port_at ports k).line now) in let h = all k in omega (arith, e, h))
