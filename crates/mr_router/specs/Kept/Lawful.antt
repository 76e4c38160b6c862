-- A router keeps the laws of a kind.
use Rattle.std.proofs.Common.{◌≡◌, ℕ, zero, suc, ◌+◌, ◌/◌, ◌<◌, ◌≤◌, ◌^◌, Bool, true, false, List, [], ◌∷◌, length, map, refl, sym, ap, subst, ◌∙◌, arith}
use Rattle.std.specs.Prelude.{◌&&◌, nat_lt, nat_le}
use Rattle.std.proofs.lemmas.Bool.{eq-eqb, ltb-false}
use Rattle.ss_model.specs.declared.Cause.{Cause}
use Rattle.ss_model.specs.declared.Cause.TheVariants as cause
use Rattle.ss_model.specs.declared.Action.{Action}
use Rattle.ss_model.specs.declared.Action.TheVariants as action
use Rattle.ss_element.specs.Kind.{ActionsFit}
use Rattle.ss_safe.specs.Laws.{gate, meters_of, FlowKeeps, SameRoom, MayTell, HasRoom, SendsFit, NamesAll, NamesAsMuch, IsDue, Keeps, KindLaws}
use Rattle.mr_flow.specs.declared.NetLoad.{NetLoad}
use Rattle.mr_flow.specs.declared.NetLoad.TheVariants as net
use Rattle.mr_flow.specs.declared.Load.{Load}
use Rattle.mr_flow.specs.declared.Load.TheVariants as load
use Rattle.mr_flow.specs.Load.{is_of}
use Rattle.mr_flow.specs.Side.{IsWhole, channels, input}
use Rattle.mr_router.specs.declared.port.Port.{Port}
use Rattle.mr_router.specs.Network.{leads}
use Rattle.mr_router.specs.Router.{Switch, no_port, port_at, router_handled}
use Rattle.mr_router.specs.Fitting.{peer_of, lanes, bounds_of, RouterHolds, port_fits, router_fits, lane_count, comes, cause_comes, Goes, LoadGoes}
use Rattle.mr_router.specs.Keeping.{HasSpace, Told}
use Rattle.mr_router.specs.Acting.{AllRouters, IsDue as IsTickDue}
use Rattle.mr_router.specs.Alike.{port_settings, PortSettings, RouterAlike}
use Rattle.mr_router.specs.Kind.{router_kind, router_allowed}
use Rattle.mr_router.specs.Kept.Sizes.{lanes_count, lanes_within, size_at}
use Rattle.mr_router.specs.Kept.Judging.{both, and_true, lt_of, each_of, of_each, later_packet}
use Rattle.mr_router.specs.Kept.Sound.{sound_of, of_sound, sound_later}
use Rattle.mr_router.specs.Kept.Balance.{router_balances, no_channel}
use Rattle.mr_router.specs.Kept.Keeping.{router_keeps, router_is_ready}
use Rattle.mr_router.specs.Kept.Acting.{router_acts, router_clocks}
use Rattle.mr_router.specs.Kept.Alike.{handled_alike}

-- ---- later

ports_later : (x : Switch) (at later : ℕ) → at ≤ later → router_fits x at ≡ true → router_fits x later ≡ true
ports_later x at later up f =
    let two = both _ _ f in
    and_true _ _ (of_each (λ i. port_fits x.set later i (port_at x.ports i)) (length x.ports) (λ i l. of_sound x.set later i (port_at x.ports i) (sound_later x.set at later i (port_at x.ports i) up (sound_of x.set at i (port_at x.ports i) (each_of (λ j. port_fits x.set at j (port_at x.ports j)) (length x.ports) i two.0 l))))) two.1

comes_later : (x : Switch) (i at later : ℕ) (y : NetLoad) → at ≤ later → comes x i at y ≡ true → comes x i later y ≡ true
comes_later x i at later (net.Packet c pk) up h =
    let a = both _ _ h in
    let b = both _ _ a.1 in
    and_true _ _ a.0 (and_true _ _ b.0 (later_packet (bounds_of x.set) (c / lanes x.set i) at later pk up b.1))
comes_later x i at later (net.Credit c flits) up h = h

cause_later : (x : Switch) (why : Cause Load) (at later : ℕ) → at ≤ later → cause_comes x why at ≡ true → cause_comes x why later ≡ true
cause_later x cause.Start at later up h = refl
cause_later x (cause.Link i (load.Core n)) at later up h = h
cause_later x (cause.Link i (load.Net y)) at later up h = comes_later x i at later y up h
cause_later x (cause.Own line y) at later up h = h
cause_later x (cause.Tick clock) at later up h = refl

-- ---- alike

heads_same : {X : Type 0} (a b : X) (xs ys : List X) → a ∷ xs ≡ b ∷ ys → (a ≡ b) × (xs ≡ ys)
heads_same a b xs ys e = (cc, cc)

settings_at : (xs ys : List Port) (i : ℕ) → map port_settings ys ≡ map port_settings xs → port_settings (port_at ys i) ≡ port_settings (port_at xs i)
settings_at [] [] i e = refl
settings_at [] (y ∷ ys) i e = absurd cc
settings_at (x ∷ xs) [] i e = absurd cc
settings_at (x ∷ xs) (y ∷ ys) zero e = (heads_same (port_settings y) (port_settings x) (map port_settings ys) (map port_settings xs) e).0
settings_at (x ∷ xs) (y ∷ ys) (suc i) e = settings_at xs ys i (heads_same (port_settings y) (port_settings x) (map port_settings ys) (map port_settings xs) e).1

length-settings : (ports : List Port) → length (map port_settings ports) ≡ length ports
length-settings [] = refl
length-settings (p ∷ ports) = ap suc (length-settings ports)

same_length : (xs ys : List Port) → map port_settings ys ≡ map port_settings xs → length ys ≡ length xs
same_length xs ys e = sym (length-settings ys) ∙ ap length e ∙ length-settings xs

channels_alike : (x y : Switch) (p : ℕ) → RouterAlike x y → lane_count (port_at y.ports p) ≡ lane_count (port_at x.ports p)
channels_alike x y p a = lanes_count (port_at x.ports p).line (port_at y.ports p).line (ap (λ (s : PortSettings). s.sizes) (settings_at x.ports y.ports p a.ports))

most_alike : (x y : Switch) (p : ℕ) → RouterAlike x y → (port_at y.ports p).most ≡ (port_at x.ports p).most
most_alike x y p a = ap (λ (s : PortSettings). s.most) (settings_at x.ports y.ports p a.ports)

room_alike : (x y : Switch) → RouterAlike x y → SameRoom (meters_of router_kind) x y
room_alike x y a = record {
  channels = λ p. channels_alike x y p a;
  capacity = λ p ch l.
      let s = (port_at x.ports p).line in
      let t = (port_at y.ports p).line in
      size_at s.inputs t.inputs s.outputs t.outputs s.credits t.credits ch (ap (λ (k : PortSettings). k.sizes) (settings_at x.ports y.ports p a.ports)) l;
  limit = λ p ch l. most_alike x y p a;
}

comes_alike : (x y : Switch) (i at : ℕ) (z : NetLoad) → RouterAlike x y → comes y i at z ≡ comes x i at z
comes_alike x y i at (net.Packet c pk) a =
    ap (λ s. leads (peer_of s i) && (nat_lt c (lane_count (port_at y.ports i)) && is_of (bounds_of s) (c / lanes s i) at pk)) a.set
    ∙ ap (λ n. leads (peer_of x.set i) && (nat_lt c n && is_of (bounds_of x.set) (c / lanes x.set i) at pk)) (channels_alike x y i a)
comes_alike x y i at (net.Credit c flits) a =
    ap (λ n. nat_lt c n && (nat_le 1 flits && nat_le flits (port_at y.ports i).most)) (channels_alike x y i a)
    ∙ ap (λ n. nat_lt c (lane_count (port_at x.ports i)) && (nat_le 1 flits && nat_le flits n)) (most_alike x y i a)

hears : (x y : Switch) (why : Cause Load) (at : ℕ) → RouterAlike x y → cause_comes x why at ≡ true → cause_comes y why at ≡ true
hears x y cause.Start at a h = refl
hears x y (cause.Link i (load.Core n)) at a h = h
hears x y (cause.Link i (load.Net z)) at a h = comes_alike x y i at z a ∙ h
hears x y (cause.Own line z) at a h = h
hears x y (cause.Tick clock) at a h = refl

goes : (x y : Switch) (p : ℕ) (z : NetLoad) (at : ℕ) → RouterAlike x y → Goes y p z at → Goes x p z at
goes x y p (net.Packet c pk) at a g = (let e = channels_alike x y p a in let h = g.0 in omega (arith, e, h), ap (λ s. is_of (bounds_of s) (c / lanes s p) at pk) (sym a.set) ∙ g.1)
goes x y p (net.Credit c flits) at a g = (let e = channels_alike x y p a in let h = g.0 in omega (arith, e, h), g.1, let e = ap (λ s. s.input_flits) a.set in let h = g.2 in omega (arith, e, h))

gives : (x y : Switch) (p : ℕ) (z : Load) (at : ℕ) → RouterAlike x y → LoadGoes y p z at → LoadGoes x p z at
gives x y p (load.Core n) at a g = g
gives x y p (load.Net z) at a g = goes x y p z at a g

names : (x y : Switch) → RouterAlike x y → NamesAsMuch router_kind router_allowed x y
names x y a = record {
  ports = λ p n. (let e = same_length x.ports y.ports a.ports in let h = n.0 in omega (arith, e, h), ap (λ s. leads (peer_of s p)) (sym a.set) ∙ n.1);
  lines = λ i n. n;
  clocks = λ i n. n;
}

-- ---- what may be told

may_come : (x : Switch) (now i : ℕ) (y : NetLoad) → comes x i (now + 1) y ≡ true → HasRoom (meters_of router_kind) x (cause.Link i (load.Net y)) → HasSpace (port_at x.ports i) y
may_come x now i (net.Packet c pk) h has =
    let a = both _ _ h in
    let b = both _ _ a.1 in
    let r = (has c (lt_of c (lane_count (port_at x.ports i)) b.0)).0 in
    let e = ap (λ t. gate t pk.flits) (eq-eqb c c refl) in
    omega (arith, r, e)
may_come x now i (net.Credit c flits) h has =
    let a = both _ _ h in
    let r = (has c (lt_of c (lane_count (port_at x.ports i)) a.0)).1 in
    let e = ap (λ t. gate t flits) (eq-eqb c c refl) in
    omega (arith, r, e)

told : (x : Switch) (now : ℕ) (why : Cause Load) → MayTell router_kind router_allowed x now why → Told x now why
told x now cause.Start m = record { early = m.early; holds = m.holds; fits = m.fit; may = tt }
told x now (cause.Link i (load.Core n)) m = absurd (no m.heard)
  where
    no : false ≡ true → ⊥
    no e = absurd cc
told x now (cause.Link i (load.Net y)) m = record { early = m.early; holds = m.holds; fits = m.fit; may = (m.heard, may_come x now i y m.heard m.room) }
told x now (cause.Own line y) m = absurd (no m.heard)
  where
    no : false ≡ true → ⊥
    no e = absurd cc
told x now (cause.Tick clock) m = record { early = m.early; holds = m.holds; fits = m.fit; may = tt }

due : (x : Switch) (now : ℕ) (why : Cause Load) → IsDue router_kind router_allowed x now why → IsTickDue x why
due x now cause.Start d = tt
due x now (cause.Link i y) d = tt
due x now (cause.Own line y) d = tt
due x now (cause.Tick clock) d = d.1

-- ---- actions

acts_fit : (x : Switch) (at : ℕ) (acts : List (Action Load)) → AllRouters x at acts → ActionsFit acts
acts_fit x at [] h = tt
acts_fit x at (action.Send p extra y ∷ acts) h = (h.0.0, acts_fit x at acts h.1)
acts_fit x at (action.SelfSend i delay y ∷ acts) h = absurd h.0
acts_fit x at (action.ClockOn i ∷ acts) h = (tt, acts_fit x at acts h.1)
acts_fit x at (action.ClockOff i ∷ acts) h = (tt, acts_fit x at acts h.1)
acts_fit x at (action.Print text ∷ acts) h = absurd h.0

sends_fit : (x : Switch) (now : ℕ) (acts : List (Action Load)) → AllRouters x (now + 1) acts → SendsFit router_kind router_allowed x now acts
sends_fit x now [] h = tt
sends_fit x now (action.Send p extra y ∷ acts) h = (h.0.3, sends_fit x now acts h.1)
sends_fit x now (action.SelfSend i delay y ∷ acts) h = absurd h.0
sends_fit x now (action.ClockOn i ∷ acts) h = (tt, sends_fit x now acts h.1)
sends_fit x now (action.ClockOff i ∷ acts) h = (tt, sends_fit x now acts h.1)
sends_fit x now (action.Print text ∷ acts) h = absurd h.0

names_all : (x : Switch) (at : ℕ) (acts : List (Action Load)) → AllRouters x at acts → NamesAll router_kind router_allowed x acts
names_all x at [] h = tt
names_all x at (action.Send p extra y ∷ acts) h = ((h.0.1, h.0.2), names_all x at acts h.1)
names_all x at (action.SelfSend i delay y ∷ acts) h = absurd h.0
names_all x at (action.ClockOn i ∷ acts) h = (h.0, names_all x at acts h.1)
names_all x at (action.ClockOff i ∷ acts) h = (h.0, names_all x at acts h.1)
names_all x at (action.Print text ∷ acts) h = absurd h.0

all_whole : (x : Switch) → RouterHolds x → (i : ℕ) → IsWhole (port_at x.ports i).line
all_whole x h i = at_place (nat_lt i (length x.ports)) refl
  where
    past : (ports : List Port) (i : ℕ) → length ports ≤ i → port_at ports i ≡ no_port
    past [] i l = refl
    past (p ∷ ports) zero l = absurd (omega arith)
    past (p ∷ ports) (suc i) l = past ports i (omega arith)

    none : IsWhole no_port.line
    none = record { few = omega arith; inputs = refl; outputs = refl; short_in = λ c. omega arith; short_out = λ c. omega arith }

    at_place : (b : Bool) → nat_lt i (length x.ports) ≡ b → IsWhole (port_at x.ports i).line
    at_place true e = (h.each i (lt_of i (length x.ports) e)).whole
    at_place false e = subst (λ (p : Port). IsWhole p.line) (sym (past x.ports i (ltb-false i (length x.ports) e))) none

capacity_small : (x : Switch) (p ch : ℕ) → RouterHolds x → ch < lane_count (port_at x.ports p) → (input (port_at x.ports p).line ch).capacity < 2 ^ 32
capacity_small x p ch h l =
    let within = lanes_within (port_at x.ports p).line in
    let k : ch < channels (port_at x.ports p).line = omega (arith, l, within) in
    let here = no_channel x.ports p ch k in
    let e = (h.each p here).inputs ch k in
    let s = h.sizes.2 in
    omega (arith, e, s)

flows : (x : Switch) (now : ℕ) (why : Cause Load) → Told x now why → FlowKeeps (meters_of router_kind) x why (router_handled x now why)
flows x now why t =
    let b = router_balances x now why (all_whole x t.holds) (router_is_ready x now why t).1 in
    let here : (p ch : ℕ) → ch < lane_count (port_at x.ports p) → ch < channels (port_at x.ports p).line = λ p ch l. (let within = lanes_within (port_at x.ports p).line in omega (arith, l, within)) in
    record { credits = λ p ch l. b.credits p ch (here p ch l); queued = λ p ch l. b.queued p ch (here p ch l) }

kept : (x : Switch) (now : ℕ) (why : Cause Load) → MayTell router_kind router_allowed x now why → Keeps router_kind router_allowed x now why (router_handled x now why)
kept x now why m =
    let t = told x now why m in
    let k = router_keeps x now why t in
    let a = router_acts x now why t in
    record {
      holds = k.0;
      fit = k.1;
      begun = refl;
      alike = handled_alike x now why t;
      acts = acts_fit x (now + 1) (router_handled x now why).actions a;
      sends = sends_fit x now (router_handled x now why).actions a;
      names = names_all x (now + 1) (router_handled x now why).actions a;
      flow = flows x now why t;
      clocks = router_clocks x now why t (due x now why m.due);
    }

pub router_laws : KindLaws router_kind router_allowed
router_laws = record {
  fits_later = λ x at later up early f. ports_later x at later up f;
  loads_later = λ x why at later up early h. cause_later x why at later up h;
  capacity_fits = capacity_small;
  same_room = room_alike;
  hears_alike = hears;
  gives_alike = gives;
  names_alike = names;
  meets = told;
  keeps = kept;
  primary_stays = λ x now why. refl;
  done_stays = λ x now why d. refl;
}
