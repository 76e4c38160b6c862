-- What values and reading keep of statistics: their places, their settings, and that numbers are within their fields. The proofs.
use Rattle.std.proofs.Common.{◌≡◌, ℕ, zero, suc, ◌+◌, ◌*◌, ◌-◌, ◌^◌, ◌<◌, min, max, List, [], ◌∷◌, Bool, true, false, cond, length, map, Option, Some, None, refl, sym, ap, ◌∙◌, arith}
use Rattle.std.specs.Prelude.{bytes_eq, not, nat_le, nat_lt, nat_eq, ◌&&◌}
use Rattle.std.specs.List.{position_or_len}
use Rattle.ss_wire.proofs.Forms.{each_length}
use Rattle.ss_stats.specs.Binned.{more_if, bins_with}
use Rattle.ss_stats.specs.declared.set.Stat.{Stat}
use Rattle.ss_stats.specs.declared.set.Stat.TheVariants as stat
use Rattle.ss_stats.specs.Set.{Entry, with_value, set_with_value, place_of}
use Rattle.ss_element.specs.Stored.{field, bins_form, stat_form, stats_form}
use Rattle.ss_tally.specs.Tally.{added, tallied, bins_of, settings, StatsFit, AlikeStats}

-- ---- places

-- as many statistics stand before the first of a name
abbrev before : List ℕ → List Entry → ℕ
before name set = position_or_len (λ e. bytes_eq e.0 name) set

one_more : (b : Bool) (m n : ℕ) → m ≡ n → cond b (1 + m) 0 ≡ cond b (1 + n) 0
one_more b m n e = ap (λ k. cond b (1 + k) 0) e

cons_parts : {X : Type 0} (x y : X) (xs ys : List X) → x ∷ xs ≡ y ∷ ys → (x ≡ y) × (xs ≡ ys)
cons_parts x y xs ys e = (cc, cc)

before_alike : (d e : List Entry) (name : List ℕ) → map settings d ≡ map settings e → before name d ≡ before name e
before_alike [] [] name h = refl
before_alike [] (y ∷ e) name h = absurd cc
before_alike (x ∷ d) [] name h = absurd cc
before_alike (x ∷ d) (y ∷ e) name h =
    let parts = cons_parts (settings x) (settings y) (map settings d) (map settings e) h in
    one_more (not (bytes_eq x.0 name)) _ _ (before_alike d e name parts.1)
    ∙ ap (λ s. cond (not (bytes_eq s.0 name)) (1 + before name e) 0) parts.0

length_alike : (d e : List Entry) → map settings d ≡ map settings e → length d ≡ length e
length_alike [] [] h = refl
length_alike [] (y ∷ e) h = absurd cc
length_alike (x ∷ d) [] h = absurd cc
length_alike (x ∷ d) (y ∷ e) h = ap (λ n. suc n) (length_alike d e (cons_parts (settings x) (settings y) (map settings d) (map settings e) h).1)

-- statistics with the same settings have the same places
pub places_alike : (d e : List Entry) (name : List ℕ) → map settings d ≡ map settings e → place_of d name ≡ place_of e name
places_alike d e name h = rw (before_alike d e name h, length_alike d e h) refl

-- ---- settings

binned_length : (from width : ℕ) (bins : List ℕ) (v : ℕ) → length (bins_with from width bins v) ≡ length bins
binned_length from width [] v = refl
binned_length from width (n ∷ bins) v = ap (λ k. suc k) (binned_length (from + width) width bins v)

value_settings : (s : Stat) (v : ℕ) → bins_of (with_value s v) ≡ bins_of s
value_settings (stat.Accumulator a) v = refl
value_settings (stat.Histogram h) v = ap (λ n. Some (h.least, h.width, n)) (binned_length h.least h.width h.bins v)

set_settings : (set : List Entry) (i v : ℕ) → map settings (set_with_value set i v) ≡ map settings set
set_settings [] i v = refl
set_settings (e ∷ set) zero v = ap (λ b. (e.0, b) ∷ map settings set) (value_settings e.1 v)
set_settings (e ∷ set) (suc i) v = ap (λ l. settings e ∷ l) (set_settings set i v)

-- a value changes no settings
pub added_settings : (set : List Entry) (o : Option ℕ) (v : ℕ) → map settings (added set o v) ≡ map settings set
added_settings set None v = refl
added_settings set (Some i) v = set_settings set i v

-- a value changes no settings, and so no places
pub tallied_alike : (set : List Entry) (name : List ℕ) (v : ℕ) → AlikeStats set (tallied set name v)
tallied_alike set name v = added_settings set (place_of set name) v

pub place_kept : (set : List Entry) (name other : List ℕ) (v : ℕ) → place_of set other ≡ place_of (tallied set name v) other
place_kept set name other v = places_alike set (tallied set name v) other (sym (tallied_alike set name v))

-- ---- numbers

either_below : (b : Bool) (m n most : ℕ) → m < most → n < most → cond b m n < most
either_below true m n most h k = h
either_below false m n most h k = k

more_below : (b : Bool) (n : ℕ) → n < 256 ^ 8 → more_if b n < 256 ^ 8
more_below b n h = either_below b (min (n + 1) (2 ^ 64 - 1)) n (256 ^ 8) (omega arith) h

bins_fit : (from width : ℕ) (bins : List ℕ) (v : ℕ) → (bins_form bins).Fits bins → (bins_form (bins_with from width bins v)).Fits (bins_with from width bins v)
bins_fit from width [] v h = refl
bins_fit from width (n ∷ bins) v h = (more_below (nat_le from v && nat_lt v (from + width)) n h.0, bins_fit (from + width) width bins v h.1)

value_fits : (s : Stat) (v : ℕ) → v < 2 ^ 64 → (stat_form s).Fits s → (stat_form (with_value s v)).Fits (with_value s v)
value_fits (stat.Accumulator a) v small h =
    let f = h.1.1 in
    (tt, (tt, (omega arith, (omega arith, (omega arith, (either_below (nat_eq a.count 0) v (min a.least v) (256 ^ 8) (omega arith) (omega arith), either_below (nat_eq a.count 0) v (max a.greatest v) (256 ^ 8) (omega arith) (omega (arith, f.1.1.1.1))))))))
value_fits (stat.Histogram k) v small h =
    let f = h.1.1 in
    (tt, ((refl, refl), (omega arith, (more_below (nat_lt v k.least) k.below f.1.0, (more_below (nat_le (k.least + k.width * length k.bins) v) k.above f.1.1.0, bins_fit k.least k.width k.bins v f.1.1.1)))))

set_fits : (set : List Entry) (i v : ℕ) → v < 2 ^ 64 → StatsFit set → StatsFit (set_with_value set i v)
set_fits [] i v small h = h
set_fits (e ∷ set) zero v small h = ((refl, value_fits e.1 v small h.0.1), h.1)
set_fits (e ∷ set) (suc i) v small h = (h.0, set_fits set i v small h.1)

pub added_fits : (set : List Entry) (o : Option ℕ) (v : ℕ) → v < 2 ^ 64 → StatsFit set → StatsFit (added set o v)
added_fits set None v small h = h
added_fits set (Some i) v small h = set_fits set i v small h

-- numbers stay within their fields
pub tallied_fits : (set : List Entry) (name : List ℕ) (v : ℕ) → v < 2 ^ 64 → StatsFit set → StatsFit (tallied set name v)
tallied_fits set name v small h = added_fits set (place_of set name) v small h

-- ---- reading

stat_alike : (s t : Stat) → (stat_form s).Fits t → bins_of t ≡ bins_of s
stat_alike (stat.Accumulator a) (stat.Accumulator b) h = refl
stat_alike (stat.Accumulator a) (stat.Histogram k) h = absurd h.0
stat_alike (stat.Histogram g) (stat.Accumulator b) h = absurd h.0
stat_alike (stat.Histogram g) (stat.Histogram k) h =
    let same = each_length (λ n. field 8) g.bins k.bins h.1.1.1.1.1 in
    ap (λ n. Some (n, k.width, length k.bins)) h.1.0.0 ∙ ap (λ n. Some (g.least, n, length k.bins)) h.1.0.1 ∙ ap (λ n. Some (g.least, g.width, n)) same

-- what is read in the place of statistics has their settings
pub read_alike : (d e : List Entry) → (stats_form d).Fits e → AlikeStats d e
read_alike [] e h = ap (map settings) h
read_alike (x ∷ d) [] h = absurd h
read_alike (x ∷ d) (y ∷ e) h =
    ap (λ n. (n, bins_of y.1) ∷ map settings e) h.0.0
    ∙ ap (λ b. (x.0, b) ∷ map settings e) (stat_alike x.1 y.1 h.0.1)
    ∙ ap (λ l. settings x ∷ l) (read_alike d e h.1)

bins_refit : (b c xs : List ℕ) → length b ≡ length c → (bins_form b).Fits xs → (bins_form c).Fits xs
bins_refit [] [] xs e h = h
bins_refit [] (m ∷ c) xs e h = absurd (omega (arith, e))
bins_refit (n ∷ b) [] xs e h = absurd (omega (arith, e))
bins_refit (n ∷ b) (m ∷ c) [] e h = absurd h
bins_refit (n ∷ b) (m ∷ c) (x ∷ xs) e h = (h.0, bins_refit b c xs (omega (arith, e)) h.1)

some_parts : (a b c x y z : ℕ) → ◌≡◌ {A = Option (ℕ × ℕ × ℕ)} (Some (a, b, c)) (Some (x, y, z)) → (a ≡ x) × (b ≡ y) × (c ≡ z)
some_parts a b c x y z e =
    let t : ◌≡◌ {A = ℕ × ℕ × ℕ} (a, b, c) (x, y, z) = cc in
    (ap (λ p. p.0) t, ap (λ p. p.1) t, ap (λ p. p.2) t)

stat_refit : (s t u : Stat) → bins_of s ≡ bins_of t → (stat_form s).Fits u → (stat_form t).Fits u
stat_refit (stat.Accumulator a) (stat.Accumulator b) u e h = h
stat_refit (stat.Accumulator a) (stat.Histogram k) u e h = absurd cc
stat_refit (stat.Histogram g) (stat.Accumulator b) u e h = absurd cc
stat_refit (stat.Histogram g) (stat.Histogram k) u e h =
    let p = some_parts g.least g.width (length g.bins) k.least k.width (length k.bins) e in
    let f = h.1.1 in
    (h.0, ((h.1.0.0 ∙ p.0, h.1.0.1 ∙ p.1), (f.0, (f.1.0, (f.1.1.0, bins_refit g.bins k.bins _ p.2 f.1.1.1)))))

-- what can be read in the place of statistics can be in the place of others with their settings
pub refit : (c d e : List Entry) → map settings c ≡ map settings d → (stats_form c).Fits e → (stats_form d).Fits e
refit [] [] e s h = h
refit [] (y ∷ d) e s h = absurd cc
refit (x ∷ c) [] e s h = absurd cc
refit (x ∷ c) (y ∷ d) [] s h = absurd h
refit (x ∷ c) (y ∷ d) (z ∷ e) s h =
    let parts = cons_parts (settings x) (settings y) (map settings c) (map settings d) s in
    ((h.0.0 ∙ ap (λ p. p.0) parts.0, stat_refit x.1 y.1 z.1 (ap (λ p. p.1) parts.0) h.0.1), refit c d e parts.1 h.1)

-- what was read fits
pub read_fits : (d e : List Entry) → (stats_form d).Fits e → StatsFit e
read_fits d e h = refit d e e (sym (read_alike d e h)) h

-- a place that was known is known of what was read
pub place_read : (d e : List Entry) (name : List ℕ) (o r : Option ℕ) → (stats_form d).Fits e → r ≡ o → o ≡ place_of d name → r ≡ place_of e name
place_read d e name o r f h k = h ∙ k ∙ places_alike d e name (sym (read_alike d e f))
