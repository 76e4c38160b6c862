-- What happens at a port keeps it as it was made, and fitting.
use Rattle.std.proofs.Common.{◌≡◌, ℕ, zero, suc, ◌+◌, ◌-◌, ◌/◌, ◌<◌, ◌≤◌, Bool, true, false, List, [], ◌∷◌, drop, set, get_or, Option, Some, None, refl, sym, ap, ◌∙◌, arith}
use Rattle.std.proofs.lemmas.List.{length-set}
use Rattle.std.proofs.lemmas.Bool.{false≢true}
use Rattle.std.proofs.lemmas.Nat.{mod_below}
use Rattle.mr_flow.specs.declared.Packet.{Packet}
use Rattle.mr_flow.specs.declared.NetLoad.TheVariants as net
use Rattle.mr_flow.specs.Load.{is_of}
use Rattle.mr_flow.specs.Queue.{Row, room, rest, added, row_at}
use Rattle.mr_flow.specs.Side.{channels, input, output, credits_at, sent, departed}
use Rattle.mr_flow.proofs.Sides.{whole_arrived, whole_queued, whole_taken, whole_departed}
use Rattle.mr_flow.proofs.Flows.{sent_departs}
use Rattle.mr_router.specs.declared.settings.RouterSettings.{RouterSettings}
use Rattle.mr_router.specs.declared.port.Port.{Port}
use Rattle.mr_router.specs.Network.{leads}
use Rattle.mr_router.specs.Router.{port_pumped, port_arrived, given, received, way}
use Rattle.mr_router.specs.Fitting.{peer_of, lanes, bounds_of, PortHolds}
use Rattle.mr_router.specs.Kept.Judging.{RowFits, rest_fits, added_fits}
use Rattle.mr_router.specs.Kept.Sound.{PortSound}

-- one queue, or one number, changes
pub rows-set : (P : ℕ → Row → Type 0) (qs : List Row) (k : ℕ) (q : Row) (c : ℕ) → P c (row_at qs c) → P k q → P c (row_at (set qs k q) c)
rows-set P [] k q c old new = old
rows-set P (x ∷ qs) zero q zero old new = new
rows-set P (x ∷ qs) zero q (suc c) old new = old
rows-set P (x ∷ qs) (suc k) q zero old new = old
rows-set P (x ∷ qs) (suc k) q (suc c) old new = rows-set (λ j. P (suc j)) qs k q c old new

pub nums-set : (P : ℕ → ℕ → Type 0) (ns : List ℕ) (k n c : ℕ) → P c (get_or ns c 0) → P k n → P c (get_or (set ns k n) c 0)
nums-set P [] k n c old new = old
nums-set P (x ∷ ns) zero n zero old new = new
nums-set P (x ∷ ns) zero n (suc c) old new = old
nums-set P (x ∷ ns) (suc k) n zero old new = old
nums-set P (x ∷ ns) (suc k) n (suc c) old new = nums-set (λ j. P (suc j)) ns k n c old new

-- a port that was made and fits
pub record Good (x : RouterSettings) (at i : ℕ) (p : Port) : Type 0 where
  pub holds : PortHolds x i p
  pub sound : PortSound x at i p

true_false : (t : Bool) → t ≡ true → t ≡ false → ⊥
true_false true a b = absurd (false≢true (sym b))
true_false false a b = absurd (false≢true a)

no_rest : (ps : List Packet) → ps ≡ [] → drop 1 ps ≡ []
no_rest ps e = ap (drop 1) e

-- ---- a packet leaves an input queue

pub given_good : (x : RouterSettings) (now i c : ℕ) (pk : Packet) (p : Port) → c < channels p.line → Good x (now + 1) i p → Good x (now + 1) i (given x now c pk p)
given_good x now i c pk p here g =
    let h = g.holds in
    let s = g.sound in
    let q = rest (input p.line c) in
    record {
      holds = record {
        whole = whole_taken p.line c h.whole;
        count = h.count;
        inputs = λ k l. rows-set (λ j r. r.capacity ≡ x.input_flits) p.line.inputs c q k (h.inputs k l) (h.inputs c here);
        outputs = h.outputs;
        most = h.most;
      };
      sound = record {
        line = s.line;
        in_free = omega arith;
        cross_free = s.cross_free;
        turn = s.turn;
        empty = λ no. let e = s.empty no in record { inputs = λ k. rows-set (λ j r. r.packets ≡ []) p.line.inputs c q k (e.inputs k) (no_rest (input p.line c).packets (e.inputs c)); outputs = e.outputs };
        each = λ k l. let a = s.each k l in record { input = rows-set (λ j r. RowFits (bounds_of x) (j / lanes x i) (now + 1) r) p.line.inputs c q k a.input (rest_fits (bounds_of x) (c / lanes x i) (now + 1) (input p.line c) (s.each c here).input); output = a.output; credits = a.credits };
      };
    }

-- ---- a packet comes to an output queue

pub received_good : (x : RouterSettings) (now i : ℕ) (pk : Packet) (p : Port) → (way x pk).1 < channels p.line → leads (peer_of x i) ≡ true → pk.flits ≤ room (output p.line (way x pk).1) → is_of (bounds_of x) ((way x pk).1 / lanes x i) (now + 1) pk ≡ true → Good x (now + 1) i p → Good x (now + 1) i (received x now pk p)
received_good x now i pk p here led fits ours g =
    let h = g.holds in
    let s = g.sound in
    let c = (way x pk).1 in
    let q = added (output p.line c) pk in
    record {
      holds = record {
        whole = whole_queued p.line c pk h.whole;
        count = h.count;
        inputs = h.inputs;
        outputs = λ k l. rows-set (λ j r. r.capacity ≡ x.output_flits) p.line.outputs c q k (h.outputs k l) (h.outputs c here);
        most = h.most;
      };
      sound = record {
        line = s.line;
        in_free = s.in_free;
        cross_free = omega arith;
        turn = s.turn;
        empty = λ no. absurd (true_false (leads (peer_of x i)) led no);
        each = λ k l. let a = s.each k l in record { input = a.input; output = rows-set (λ j r. RowFits (bounds_of x) (j / lanes x i) (now + 1) r) p.line.outputs c q k a.output (added_fits (bounds_of x) (c / lanes x i) (now + 1) (output p.line c) pk fits ours (s.each c here).output); credits = a.credits };
      };
    }

-- ---- a packet goes out

pumped_to : (x : RouterSettings) (now i : ℕ) (p : Port) (o : Option (ℕ × Packet × ℕ)) → sent p.line now ≡ o → Good x (now + 1) i p → Good x (now + 1) i (record p { line = departed p.line now o })
pumped_to x now i p None is g = g
pumped_to x now i p (Some (c, pk, extra)) is g =
    let h = g.holds in
    let s = g.sound in
    let d = sent_departs p.line now c pk extra h.whole is in
    let q = rest (output p.line c) in
    let n = credits_at p.line c - pk.flits in
    let long = length-set p.line.credits c n in
    let here = d.here in
    record {
      holds = record {
        whole = whole_departed p.line now (Some (c, pk, extra)) h.whole;
        count = long ∙ h.count;
        inputs = λ k l. h.inputs k (omega (arith, l, long));
        outputs = λ k l. rows-set (λ j r. r.capacity ≡ x.output_flits) p.line.outputs c q k (h.outputs k (omega (arith, l, long))) (h.outputs c here);
        most = h.most;
      };
      sound = record {
        line = let e = d.short in omega (arith, e);
        in_free = s.in_free;
        cross_free = s.cross_free;
        turn = let m = mod_below (c + 1) (channels p.line) (omega (arith, here)) in omega (arith, m, long);
        empty = λ no. let e = s.empty no in record { inputs = e.inputs; outputs = λ k. rows-set (λ j r. r.packets ≡ []) p.line.outputs c q k (e.outputs k) (no_rest (output p.line c).packets (e.outputs c)) };
        each = λ k l.
            let a = s.each k (omega (arith, l, long)) in
            let b = s.each c here in
            record {
              input = a.input;
              output = rows-set (λ j r. RowFits (bounds_of x) (j / lanes x i) (now + 1) r) p.line.outputs c q k a.output (rest_fits (bounds_of x) (c / lanes x i) (now + 1) (output p.line c) b.output);
              credits = nums-set (λ j m. m ≤ p.most) p.line.credits c n k a.credits (let m = b.credits in omega (arith, m));
            };
      };
    }

pub pumped_good : (x : RouterSettings) (now i : ℕ) (p : Port) → Good x (now + 1) i p → Good x (now + 1) i (port_pumped now p)
pumped_good x now i p g = pumped_to x now i p (sent p.line now) refl g

-- ---- something comes in

pub packet_good : (x : RouterSettings) (at i c : ℕ) (pk : Packet) (p : Port) → c < channels p.line → leads (peer_of x i) ≡ true → pk.flits ≤ room (input p.line c) → is_of (bounds_of x) (c / lanes x i) at pk ≡ true → Good x at i p → Good x at i (port_arrived p (net.Packet c pk))
packet_good x at i c pk p here led fits ours g =
    let h = g.holds in
    let s = g.sound in
    let q = added (input p.line c) pk in
    record {
      holds = record {
        whole = whole_arrived p.line (net.Packet c pk) h.whole;
        count = h.count;
        inputs = λ k l. rows-set (λ j r. r.capacity ≡ x.input_flits) p.line.inputs c q k (h.inputs k l) (h.inputs c here);
        outputs = h.outputs;
        most = h.most;
      };
      sound = record {
        line = s.line;
        in_free = s.in_free;
        cross_free = s.cross_free;
        turn = s.turn;
        empty = λ no. absurd (true_false (leads (peer_of x i)) led no);
        each = λ k l. let a = s.each k l in record { input = rows-set (λ j r. RowFits (bounds_of x) (j / lanes x i) at r) p.line.inputs c q k a.input (added_fits (bounds_of x) (c / lanes x i) at (input p.line c) pk fits ours (s.each c here).input); output = a.output; credits = a.credits };
      };
    }

pub credit_good : (x : RouterSettings) (at i c flits : ℕ) (p : Port) → credits_at p.line c + flits ≤ p.most → Good x at i p → Good x at i (port_arrived p (net.Credit c flits))
credit_good x at i c flits p most g =
    let h = g.holds in
    let s = g.sound in
    let long = length-set p.line.credits c (credits_at p.line c + flits) in
    record {
      holds = record {
        whole = whole_arrived p.line (net.Credit c flits) h.whole;
        count = long ∙ h.count;
        inputs = λ k l. h.inputs k (omega (arith, l, long));
        outputs = λ k l. h.outputs k (omega (arith, l, long));
        most = h.most;
      };
      sound = record {
        line = s.line;
        in_free = s.in_free;
        cross_free = s.cross_free;
        turn = let t = s.turn in omega (arith, t, long);
        empty = λ no. let e = s.empty no in record { inputs = e.inputs; outputs = e.outputs };
        each = λ k l. let a = s.each k (omega (arith, l, long)) in record { input = a.input; output = a.output; credits = nums-set (λ j m. m ≤ p.most) p.line.credits c (credits_at p.line c + flits) k a.credits most };
      };
    }
