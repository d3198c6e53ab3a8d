-- Every run is fine: at its beginning, and after each action of the module.
use Rattle.std.proofs.Common.{ℕ}
use Rattle.registers.specs.Kind.{Rule}
use Rattle.actions.specs.declared.Action.{Action}
use Rattle.actions.specs.declared.Action.TheVariants.{Starting, MasterDoing, HandlingMasterDone, BackupDoing, DetectingOldMasterId, HandlingBackupDone, HandlingMasterDoFailed, HandlingBackupDoFailed, GettingNewBackup, GettingNewMaster, HandlingBackupGetNewMasterFailed, HandlingMasterGetNewBackupFailed, UpdatingBackupId, UpdatingMasterId, CreatingNewBackup, CreatingNewMaster, KillingMaster, KillingBackup}
use Rattle.hub_runs.specs.Hubs.{Size, State}
use Rattle.hub_runs.specs.Module.{Next}
use Rattle.hub_runs.specs.Runs.{Lists, lists_after}
use Rattle.hub_runs.proofs.Fine.{Fine}
use Rattle.hub_runs.proofs.Steps as steps
use Rattle.hub_runs.proofs.CardSteps as card_steps

module _ (size : Size) (rule : Rule) where
  pub action_keeps : (action : Action) (c : ℕ) (s s' : State) (l : Lists) → Fine size s l → Next size rule action c s s' → Fine size s' (lists_after action c s l)
  unfolding lists_after
  action_keeps Starting c s s' l fine (n, next) = steps.keeps_starting size rule s l fine c n.0 n.1 s' next
  action_keeps MasterDoing c s s' l fine (n, next) = rw next.2 (steps.keeps_master_doing size rule s l fine c n.0 n.1 s' next)
  action_keeps HandlingMasterDone c s s' l fine (n, next) = steps.keeps_handing_on size rule s l fine c n.0 n.1 s' next
  action_keeps BackupDoing c s s' l fine (n, next) = rw next.3 (steps.keeps_backup_doing size rule s l fine c n.0 n.1 s' next)
  action_keeps DetectingOldMasterId c s s' l fine (n, next) = steps.keeps_detecting size rule s l fine c n.0 n.1 s' next
  action_keeps HandlingBackupDone c s s' l fine (n, next) = steps.keeps_finishing size rule s l fine c n.0 n.1 s' next
  action_keeps HandlingMasterDoFailed c s s' l fine (n, next) = steps.keeps_asking_backup size rule s l fine c n.0 n.1 s' next
  action_keeps HandlingBackupDoFailed c s s' l fine (n, next) = steps.keeps_asking_master size rule s l fine c n.0 n.1 s' next
  action_keeps GettingNewBackup c s s' l fine (n, next) = steps.keeps_getting_backup size rule s l fine c n.0 n.1 s' next
  action_keeps GettingNewMaster c s s' l fine (n, next) = steps.keeps_getting_master size rule s l fine c n.0 n.1 s' next
  action_keeps HandlingBackupGetNewMasterFailed c s s' l fine (n, next) = steps.keeps_finding_master size rule s l fine c n.0 n.1 s' next
  action_keeps HandlingMasterGetNewBackupFailed c s s' l fine (n, next) = steps.keeps_giving_up size rule s l fine c n.0 n.1 s' next
  action_keeps UpdatingBackupId c s s' l fine (n, next) = steps.keeps_learning_backup size rule s l fine c n.0 n.1 s' next
  action_keeps UpdatingMasterId c s s' l fine (n, next) = steps.keeps_learning_master size rule s l fine c n.0 n.1 s' next
  action_keeps CreatingNewBackup c s s' l fine (n, next) = card_steps.keeps_creating_backup size rule s l fine c s' next
  action_keeps CreatingNewMaster c s s' l fine (n, next) = card_steps.keeps_creating_master size rule s l fine c s' next
  action_keeps KillingMaster c s s' l fine (n, next) = card_steps.keeps_killing_master size rule s l fine c s' next
  action_keeps KillingBackup c s s' l fine (n, next) = card_steps.keeps_killing_backup size rule s l fine c s' next
