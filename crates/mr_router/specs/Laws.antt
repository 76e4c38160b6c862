-- Routers keep their local laws, and so have their world and are saved.
use Rattle.std.proofs.Common.{ℕ, refl}
use Rattle.ss_model.specs.Wiring.{Wiring}
use Rattle.ss_model.specs.Step.{State}
use Rattle.ss_element.specs.World.{World}
use Rattle.ss_element.specs.Saving.{SavingLaws}
use Rattle.ss_safe.specs.Laws.{KindSaves}
use Rattle.ss_safe.specs.Safe.{Safe}
use Rattle.ss_safe.specs.Worlds.{world_of, saved_of}
use Rattle.mr_flow.specs.declared.Load.{Load}
use Rattle.mr_flow.specs.Load.{load_weight}
use Rattle.mr_flow.specs.Saved.{load_text}
use Rattle.mr_flow.proofs.Saved.{net_load_is_form}
use Rattle.mr_router.specs.Router.{Switch}
use Rattle.mr_router.specs.Saved.{router_saving}
use Rattle.mr_router.specs.Kind.{router_kind, router_allowed}
use Rattle.mr_router.specs.Kept.Lawful.{router_laws}
use Rattle.mr_router.specs.Kept.Alike.{alike_self, handled_alike}
use Rattle.mr_router.specs.Kept.Saved.{router_is_form}
use Rattle.mr_router.specs.Kept.Saving.{router_read, alike_through, router_read_holds, router_alike_read, router_saved_state, router_saved_load}

abbrev pub router_safe : Wiring → ℕ → State Switch Load → Type 0
router_safe = Safe router_kind router_allowed

pub router_world : World router_kind router_safe
router_world = world_of router_kind router_allowed router_laws

pub router_saves : KindSaves router_kind router_allowed router_saving
router_saves = record {
  states = router_is_form;
  loads = λ x. net_load_is_form;
  begun = λ first x f. refl;
  read_alike = router_read;
  read_holds = router_read_holds;
  alike_same = alike_self;
  alike_through = alike_through;
  handled_alike = handled_alike;
  alike_read = router_alike_read;
  states_saved = λ x at early holds begun fits. router_saved_state x at early holds fits;
  loads_saved = λ x why at early holds heard. router_saved_load x why at early holds heard;
}

pub router_saved : SavingLaws router_kind router_saving router_safe load_weight load_text
router_saved = saved_of router_kind router_allowed router_laws router_saving router_saves load_weight load_text (λ y. refl) (λ y. refl)
