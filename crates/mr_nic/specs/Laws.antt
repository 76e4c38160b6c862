-- Endpoints keep their local laws, and so have their world and are saved. The proofs.
use Rattle.std.proofs.Common.{◌≡◌, ℕ, ◌+◌, ◌<◌, ◌≤◌, ◌^◌, Bool, true, cond, eqb, refl, sym, ap, ◌∙◌, arith}
use Rattle.std.specs.Prelude.{nat_lt, nat_le, ◌&&◌, ◌==◌}
use Rattle.ss_model.specs.declared.Cause.{Cause}
use Rattle.ss_model.specs.declared.Cause.TheVariants as cause
use Rattle.ss_model.specs.Wiring.{Wiring}
use Rattle.ss_model.specs.Step.{State}
use Rattle.ss_element.specs.World.{World}
use Rattle.ss_element.specs.Saving.{SavingLaws}
use Rattle.ss_safe.specs.Laws.{meters_of, SameRoom, KindLaws, KindSaves}
use Rattle.ss_safe.specs.Safe.{Safe}
use Rattle.ss_safe.specs.Worlds.{world_of, saved_of}
use Rattle.mr_flow.specs.declared.NetLoad.{NetLoad}
use Rattle.mr_flow.specs.declared.NetLoad.TheVariants as net
use Rattle.mr_flow.specs.declared.Load.{Load}
use Rattle.mr_flow.specs.declared.Load.TheVariants as load
use Rattle.mr_flow.specs.Load.{is_of, load_weight}
use Rattle.mr_flow.specs.Saved.{load_text}
use Rattle.mr_flow.proofs.Saved.{net_load_is_form}
use Rattle.mr_nic.specs.declared.nic.Endpoint.{Endpoint}
use Rattle.mr_nic.specs.Saved.{endpoint_saving}
use Rattle.mr_nic.specs.Kind.{bounds_of, channels_in, comes, load_comes, cause_comes, EndpointAlike, endpoint_kind, endpoint_allowed}
use Rattle.mr_nic.specs.Kept.Judging.{both, and_true, lt_of, of_lt, later_packet}
use Rattle.mr_nic.specs.Kept.Fitting.{fit_later, below_lanes}
use Rattle.mr_nic.specs.Kept.Alike.{size_at, alike_same, alike_through}
use Rattle.mr_nic.specs.Kept.Steps.{bounds_same, channels_same, gives_alike}
use Rattle.mr_nic.specs.Kept.Telling.{endpoint_keeps, endpoint_may, handled_alike}
use Rattle.mr_nic.specs.Kept.Saving.{endpoint_is_form, endpoint_read, begun_read, endpoint_read_holds, endpoint_alike_read, endpoint_saved_state, endpoint_saved_load}
use Rattle.mr_nic.specs.Kept.Done.{endpoint_done}

-- ---- what may come

comes_later : (n : Endpoint) (y : NetLoad) (at later : ℕ) → at ≤ later → comes n at y ≡ true → comes n later y ≡ true
comes_later n (net.Packet c p) at later up h =
    let a = both (nat_lt c (channels_in n)) (is_of (bounds_of n) c at p) h in
    and_true (nat_lt c (channels_in n)) (is_of (bounds_of n) c later p) a.0 (later_packet (bounds_of n) c at later p up a.1)
comes_later n (net.Credit c flits) at later up h = h

cause_later : (n : Endpoint) (why : Cause Load) (at later : ℕ) → at ≤ later → cause_comes n why at ≡ true → cause_comes n why later ≡ true
cause_later n cause.Start at later up h = refl
cause_later n (cause.Link port (load.Core k)) at later up h = h
cause_later n (cause.Link port (load.Net y)) at later up h = let a = both (port == 0) (comes n at y) h in and_true (port == 0) (comes n later y) a.0 (comes_later n y at later up a.1)
cause_later n (cause.Own line y) at later up h = h
cause_later n (cause.Tick clock) at later up h = refl

comes_alike : (n m : Endpoint) (y : NetLoad) (at : ℕ) → EndpointAlike n m → comes n at y ≡ true → comes m at y ≡ true
comes_alike n m (net.Packet c p) at a h = ap (λ k. nat_lt c k && is_of (bounds_of m) c at p) (channels_same n m a) ∙ ap (λ b. nat_lt c (channels_in n) && is_of b c at p) (bounds_same n m a) ∙ h
comes_alike n m (net.Credit c flits) at a h = ap (λ k. nat_lt c k && (nat_le 1 flits && nat_le flits m.most)) (channels_same n m a) ∙ ap (λ k. nat_lt c (channels_in n) && (nat_le 1 flits && nat_le flits k)) (ap (λ (e : Endpoint). e.most) a.same) ∙ h

cause_alike : (n m : Endpoint) (why : Cause Load) (at : ℕ) → EndpointAlike n m → cause_comes n why at ≡ true → cause_comes m why at ≡ true
cause_alike n m cause.Start at a h = refl
cause_alike n m (cause.Link port (load.Core k)) at a h = h
cause_alike n m (cause.Link port (load.Net y)) at a h = let b = both (port == 0) (comes n at y) h in and_true (port == 0) (comes m at y) b.0 (comes_alike n m y at a b.1)
cause_alike n m (cause.Own line y) at a h = h
cause_alike n m (cause.Tick clock) at a h = refl

room_alike : (n m : Endpoint) → EndpointAlike n m → SameRoom (meters_of endpoint_kind) n m
room_alike n m a = record {
  channels = λ p. ap (λ k. cond (eqb p 0) k 0) (channels_same n m a);
  capacity = λ p ch l. size_at n.link.inputs m.link.inputs n.link.outputs m.link.outputs n.link.credits m.link.credits ch a.lanes (below_lanes n p ch l);
  limit = λ p ch l. ap (λ (e : Endpoint). e.most) a.same;
}

-- ---- the laws

pub endpoint_laws : KindLaws endpoint_kind endpoint_allowed
endpoint_laws = record {
  fits_later = λ n at later up early fit. fit_later n at later up fit;
  loads_later = λ n why at later up early fit. cause_later n why at later up fit;
  capacity_fits = λ n p ch holds l. holds.inputs ch;
  same_room = room_alike;
  hears_alike = cause_alike;
  gives_alike = gives_alike;
  names_alike = λ n m a. record { ports = λ p may. may; lines = λ i may. may; clocks = λ i may. may };
  meets = endpoint_may;
  keeps = endpoint_keeps;
  primary_stays = λ n now why. refl;
  done_stays = endpoint_done;
}

abbrev pub endpoint_safe : Wiring → ℕ → State Endpoint Load → Type 0
endpoint_safe = Safe endpoint_kind endpoint_allowed

pub endpoint_world : World endpoint_kind endpoint_safe
endpoint_world = world_of endpoint_kind endpoint_allowed endpoint_laws

pub endpoint_saves : KindSaves endpoint_kind endpoint_allowed endpoint_saving
endpoint_saves = record {
  states = endpoint_is_form;
  loads = λ n. net_load_is_form;
  begun = begun_read;
  read_alike = endpoint_read;
  read_holds = endpoint_read_holds;
  alike_same = alike_same;
  alike_through = alike_through;
  handled_alike = λ n now why meets. handled_alike n now why;
  alike_read = endpoint_alike_read;
  states_saved = endpoint_saved_state;
  loads_saved = λ n why at holds heard. endpoint_saved_load n why at holds heard;
}

pub endpoint_saved : SavingLaws endpoint_kind endpoint_saving endpoint_safe load_weight load_text
endpoint_saved = saved_of endpoint_kind endpoint_allowed endpoint_laws endpoint_saving endpoint_saves load_weight load_text (λ y. refl) (λ y. refl)
