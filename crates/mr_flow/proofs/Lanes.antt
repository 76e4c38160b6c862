-- The channels of an end of a line, one by one.
use Rattle.std.proofs.Common.{◌≡◌, ℕ, zero, suc, ◌<◌, List, [], ◌∷◌, length, map, get_or, set, refl, sym, ap, ◌∙◌, arith}
use Rattle.mr_flow.specs.Queue.{Row, row_at}
use Rattle.mr_flow.specs.Side.{Side, channels}
use Rattle.mr_flow.specs.Saved.{Lane, lanes_by, lanes_of, with_lanes}

pub length-lanes : (is os : List Row) (ns : List ℕ) → length is ≡ length ns → length os ≡ length ns → length (lanes_by is os ns) ≡ length ns
length-lanes [] os [] h k = refl
length-lanes [] os (n ∷ ns) h k = absurd (omega arith)
length-lanes (i ∷ is) [] [] h k = absurd (omega arith)
length-lanes (i ∷ is) [] (n ∷ ns) h k = absurd (omega arith)
length-lanes (i ∷ is) (o ∷ os) [] h k = refl
length-lanes (i ∷ is) (o ∷ os) (n ∷ ns) h k = ap suc (length-lanes is os ns (omega arith) (omega arith))

pub lane_at : (is os : List Row) (ns : List ℕ) (c : ℕ) (d : Lane) → length is ≡ length ns → length os ≡ length ns → c < length ns → get_or (lanes_by is os ns) c d ≡ record { input = row_at is c; output = row_at os c; credits = get_or ns c 0 }
lane_at [] os [] c d h k here = absurd (omega arith)
lane_at [] os (n ∷ ns) c d h k here = absurd (omega arith)
lane_at (i ∷ is) [] [] c d h k here = absurd (omega arith)
lane_at (i ∷ is) [] (n ∷ ns) c d h k here = absurd (omega arith)
lane_at (i ∷ is) (o ∷ os) [] c d h k here = absurd (omega arith)
lane_at (i ∷ is) (o ∷ os) (n ∷ ns) zero d h k here = refl
lane_at (i ∷ is) (o ∷ os) (n ∷ ns) (suc c) d h k here = lane_at is os ns c d (omega arith) (omega arith) (omega arith)

pub lanes-set : (is os : List Row) (ns : List ℕ) (c : ℕ) (i o : Row) (n : ℕ) → lanes_by (set is c i) (set os c o) (set ns c n) ≡ set (lanes_by is os ns) c (record { input = i; output = o; credits = n })
lanes-set [] os ns c i o n = refl
lanes-set (a ∷ is) [] ns zero i o n = refl
lanes-set (a ∷ is) [] ns (suc c) i o n = refl
lanes-set (a ∷ is) (b ∷ os) [] zero i o n = refl
lanes-set (a ∷ is) (b ∷ os) [] (suc c) i o n = refl
lanes-set (a ∷ is) (b ∷ os) (m ∷ ns) zero i o n = refl
lanes-set (a ∷ is) (b ∷ os) (m ∷ ns) (suc c) i o n = ap (λ l. record { input = a; output = b; credits = m } ∷ l) (lanes-set is os ns c i o n)

-- the lists of a whole end are those of its channels
lanes-inputs : (is os : List Row) (ns : List ℕ) → length is ≡ length ns → length os ≡ length ns → map (λ (l : Lane). l.input) (lanes_by is os ns) ≡ is
lanes-inputs [] os ns h k = refl
lanes-inputs (i ∷ is) [] [] h k = absurd (omega arith)
lanes-inputs (i ∷ is) [] (n ∷ ns) h k = absurd (omega arith)
lanes-inputs (i ∷ is) (o ∷ os) [] h k = absurd (omega arith)
lanes-inputs (i ∷ is) (o ∷ os) (n ∷ ns) h k = ap (λ l. i ∷ l) (lanes-inputs is os ns (omega arith) (omega arith))

lanes-outputs : (is os : List Row) (ns : List ℕ) → length is ≡ length ns → length os ≡ length ns → map (λ (l : Lane). l.output) (lanes_by is os ns) ≡ os
lanes-outputs [] [] ns h k = refl
lanes-outputs [] (o ∷ os) [] h k = absurd (omega arith)
lanes-outputs [] (o ∷ os) (n ∷ ns) h k = absurd (omega arith)
lanes-outputs (i ∷ is) [] [] h k = refl
lanes-outputs (i ∷ is) [] (n ∷ ns) h k = absurd (omega arith)
lanes-outputs (i ∷ is) (o ∷ os) [] h k = absurd (omega arith)
lanes-outputs (i ∷ is) (o ∷ os) (n ∷ ns) h k = ap (λ l. o ∷ l) (lanes-outputs is os ns (omega arith) (omega arith))

lanes-credits : (is os : List Row) (ns : List ℕ) → length is ≡ length ns → length os ≡ length ns → map (λ (l : Lane). l.credits) (lanes_by is os ns) ≡ ns
lanes-credits [] os [] h k = refl
lanes-credits [] os (n ∷ ns) h k = absurd (omega arith)
lanes-credits (i ∷ is) [] [] h k = absurd (omega arith)
lanes-credits (i ∷ is) [] (n ∷ ns) h k = absurd (omega arith)
lanes-credits (i ∷ is) (o ∷ os) [] h k = refl
lanes-credits (i ∷ is) (o ∷ os) (n ∷ ns) h k = ap (λ l. n ∷ l) (lanes-credits is os ns (omega arith) (omega arith))

-- another end with the same line, and channels of its own
pub lanes_again : (s t : Side) → t ≡ record s { inputs = t.inputs; outputs = t.outputs; credits = t.credits } → length t.inputs ≡ channels t → length t.outputs ≡ channels t → t ≡ with_lanes s (lanes_of t)
lanes_again s t same h k =
    same
    ∙ ap (λ l. record s { inputs = l; outputs = t.outputs; credits = t.credits }) (sym (lanes-inputs t.inputs t.outputs t.credits h k))
    ∙ ap (λ l. record s { inputs = map (λ m. m.input) (lanes_of t); outputs = l; credits = t.credits }) (sym (lanes-outputs t.inputs t.outputs t.credits h k))
    ∙ ap (λ l. record s { inputs = map (λ m. m.input) (lanes_of t); outputs = map (λ m. m.output) (lanes_of t); credits = l }) (sym (lanes-credits t.inputs t.outputs t.credits h k))
