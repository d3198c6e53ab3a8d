-- A hub at one moment: its constants, its tables, and the ways in which a step changes them.
-- The names are those of the TLA+ module AsyncFinishReplication; a client is a command.
use Rattle.std.specs.Prelude.{ℕ, ◌+◌, Bool, true, cond, ◌&&◌, List, [], ◌∷◌, ℤ, pos, None}
use Rattle.registers.specs.Kind.{Rule}
use Rattle.hub_records.specs.Commands.{is_done, rests, the_backup, the_master}
use Rattle.hub_cards.specs.Tables.{at, put, blank_card}
use Rattle.hub_cards.specs.declared.BackupNumber.{BackupNumber}
use Rattle.hub_cards.specs.declared.Card.{Card}
use Rattle.hub_cards.specs.declared.MasterNumber.{MasterNumber}
use Rattle.hub_cards.specs.declared.Status.{Status}
use Rattle.hub_cards.specs.declared.Status.TheVariants.{Active, Lost}
use Rattle.hub_records.specs.declared.commands.Command.{Command}
use Rattle.hub_records.specs.declared.commands.Phase.TheVariants.{Pending, GaveUp}
use Rattle.hub_records.specs.declared.hub.ExecState.{ExecState}
use Rattle.hub_records.specs.declared.hub.ExecState.TheVariants.{Success, Fatal}

-- CLIENT_NUM, MAX_KILL and the greatest instance number: how many commands, losses and card places there are.
pub record Size : Type 0 where
  pub client_num : ℕ
  pub max_kill : ℕ
  pub max_instance : ℕ

-- The variables of the module, with the figures of the cards' registers and the count of accepted steps.
pub record State : Type 0 where
  pub exec_state : ExecState
  pub clients : List Command
  pub master : List (Card BackupNumber)
  pub backup : List (Card MasterNumber)
  pub killed : ℕ
  pub steps : ℕ
  pub master_figures : List (List ℤ)
  pub backup_figures : List (List ℤ)

-- What stands in the tables under a number.
abbrev pub blank_client : Command
blank_client = record { hundredths = pos 0; phase = Pending; own_master = the_master 0; own_backup = the_backup 0; message = None }

abbrev pub client : State → ℕ → Command
client s c = at blank_client s.clients c

abbrev pub master_card : State → ℕ → Card BackupNumber
master_card s m = at (blank_card (the_backup 0)) s.master m

abbrev pub backup_card : State → ℕ → Card MasterNumber
backup_card s b = at (blank_card (the_master 0)) s.backup b

-- The partner that a card's record names.
abbrev pub backup_of : State → ℕ → ℕ
backup_of s m = (master_card s m).partner.0

abbrev pub master_of : State → ℕ → ℕ
master_of s b = (backup_card s b).partner.0

-- A card after a change.
abbrev pub has_status : {P : Type 0} → Status → Card P → Card P
has_status status x = record { status = status; partner = x.partner; version = x.version }

abbrev pub has_partner : {P : Type 0} → P → Card P → Card P
has_partner p x = record { status = x.status; partner = p; version = x.version }

abbrev pub has_taken : {P : Type 0} → Card P → Card P
has_taken x = record { status = x.status; partner = x.partner; version = x.version + 1 }

-- Every accepted step is counted; a step of client c changes that client.
abbrev pub with_client : ℕ → Command → State → State
with_client c x s = record { exec_state = s.exec_state; clients = put s.clients c x; master = s.master; backup = s.backup; killed = s.killed; steps = s.steps + 1; master_figures = s.master_figures; backup_figures = s.backup_figures }

-- All clients are done.
unfoldable pub all_done : List Command → Bool
all_done [] = true
all_done (x ∷ xs) = is_done x.phase && all_done xs

abbrev pub with_exec : ExecState → State → State
with_exec e s = record { exec_state = e; clients = s.clients; master = s.master; backup = s.backup; killed = s.killed; steps = s.steps; master_figures = s.master_figures; backup_figures = s.backup_figures }

-- The client is done, and where it was the last, so is the hub.
abbrev pub completed : ℕ → Command → State → State
completed c x s = with_exec (cond (all_done (put s.clients c x)) Success s.exec_state) (with_client c x s)

-- The client gives up, and so does the hub.
abbrev pub given_up : ℕ → State → State
given_up c s = with_exec Fatal (with_client c (rests GaveUp (client s c)) s)

-- A card takes the move of client c: its version rises, and its register takes the move.
abbrev pub master_takes : Rule → ℕ → ℕ → State → State
master_takes rule m c s = record { exec_state = s.exec_state; clients = s.clients; master = put s.master m (has_taken (master_card s m)); backup = s.backup; killed = s.killed; steps = s.steps; master_figures = put s.master_figures m (rule (at [] s.master_figures m) (client s c).hundredths); backup_figures = s.backup_figures }

abbrev pub backup_takes : Rule → ℕ → ℕ → State → State
backup_takes rule b c s = record { exec_state = s.exec_state; clients = s.clients; master = s.master; backup = put s.backup b (has_taken (backup_card s b)); killed = s.killed; steps = s.steps; master_figures = s.master_figures; backup_figures = put s.backup_figures b (rule (at [] s.backup_figures b) (client s c).hundredths) }

-- Master a makes backup n: the new card has its version and its register, and each is the other's partner.
abbrev pub new_backup : ℕ → ℕ → State → State
new_backup a n s = record { exec_state = s.exec_state; clients = s.clients; master = put s.master a (has_partner (the_backup n) (master_card s a)); backup = put s.backup n (record { status = Active; partner = the_master a; version = (master_card s a).version }); killed = s.killed; steps = s.steps + 1; master_figures = s.master_figures; backup_figures = put s.backup_figures n (at [] s.master_figures a) }

abbrev pub new_master : ℕ → ℕ → State → State
new_master a n s = record { exec_state = s.exec_state; clients = s.clients; master = put s.master n (record { status = Active; partner = the_backup a; version = (backup_card s a).version }); backup = put s.backup a (has_partner (the_master n) (backup_card s a)); killed = s.killed; steps = s.steps + 1; master_figures = put s.master_figures n (at [] s.backup_figures a); backup_figures = s.backup_figures }

-- A card is lost.
abbrev pub master_lost : ℕ → State → State
master_lost a s = record { exec_state = s.exec_state; clients = s.clients; master = put s.master a (has_status Lost (master_card s a)); backup = s.backup; killed = s.killed + 1; steps = s.steps + 1; master_figures = s.master_figures; backup_figures = s.backup_figures }

abbrev pub backup_lost : ℕ → State → State
backup_lost a s = record { exec_state = s.exec_state; clients = s.clients; master = s.master; backup = put s.backup a (has_status Lost (backup_card s a)); killed = s.killed + 1; steps = s.steps + 1; master_figures = s.master_figures; backup_figures = s.backup_figures }
