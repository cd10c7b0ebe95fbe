-- Laws of the equality of commands and replies, which the impls of `PartialEq` and `Eq` cite.
use Rattle.std.specs.Prelude.{◌≡◌, List}
use Rattle.std.specs.Bool.{Decides}
use Rattle.std.specs.Cmp.{IsEquivalence, decided, unsigned_Decides, booleans_Decides}
use Rattle.std.specs.Cmp.Lexicographic.{pointwise_decides}
use Rattle.std.proofs.Common.{ap, refl}
use Rattle.std.proofs.lemmas.Bool.Decides.{Decides-and, Decides-like}
use Rattle.notify_types.specs.EqualityLaws.{option_eq_decides, event_eq_decides, timed_eq_decides}
use Rattle.notify_paths.specs.ErrorLaws.{Decides-true, Decides-false, error_eq_decides}
use Rattle.notify_paths.specs.Errors.{ErrorValue}
use Rattle.notify_types.specs.Event.{Timed}
use Rattle.notify_paths.specs.PathLaws.{path_eq_decides}
use Rattle.notify_types.specs.declared.event.RecursiveMode.{RecursiveMode}
use Rattle.notify_types.specs.declared.event.RecursiveMode.TheVariants.{Recursive, NonRecursive}
use Rattle.debounce_model.specs.Command.{CommandValue, EventCommand, ErrorCommand, RootCommand, UnrootCommand, ErrorsCommand, TickCommand, ReplyValue, TakenReply, NotedReply, RootedReply, UnrootedReply, ErrorsReply, BatchReply, RefusedReply}
use Rattle.debounce_model.specs.Equality.{file_id_eq, events_eq, errors_eq, mode_eq, command_eq, reply_eq}
use Rattle.debounce_model.specs.declared.file_id.FileId.{FileId}

-- the test of numbers of files decides whether they are one
pub file_id_eq_decides : (a b : FileId) → Decides (file_id_eq a b) (a ≡ b)
file_id_eq_decides a b =
    let device = unsigned_Decides a.device b.device in
    let number = unsigned_Decides a.number b.number in
    Decides-like _ (λ p i. record { device = p.0 i; number = p.1 i }) (λ e. (cc, cc))
    (Decides-and _ _ device number)

-- the test of lists of events decides whether they are one
pub events_eq_decides : (a b : List Timed) → Decides (events_eq a b) (a ≡ b)
events_eq_decides = pointwise_decides timed_eq_decides

-- the test of lists of errors decides whether they are one
pub errors_eq_decides : (a b : List ErrorValue) → Decides (errors_eq a b) (a ≡ b)
errors_eq_decides = pointwise_decides error_eq_decides

-- the test of modes decides whether they are one
pub mode_eq_decides : (a b : RecursiveMode) → Decides (mode_eq a b) (a ≡ b)
mode_eq_decides Recursive Recursive = Decides-true refl
mode_eq_decides NonRecursive NonRecursive = Decides-true refl
mode_eq_decides a b = Decides-false (λ e. cc)

-- the test of commands decides whether they are one
pub command_eq_decides : (a b : CommandValue) → Decides (command_eq a b) (a ≡ b)
command_eq_decides (EventCommand event now exists) (EventCommand other_event other_now other_exists) =
    let same_event = event_eq_decides event other_event in
    let same_now = unsigned_Decides now other_now in
    let same_exists = booleans_Decides exists other_exists in
    Decides-like _ (λ p i. EventCommand (p.0.0 i) (p.0.1 i) (p.1 i)) (λ e. ((cc, cc), cc))
    (Decides-and _ _ (Decides-and _ _ same_event same_now) same_exists)
command_eq_decides (ErrorCommand error) (ErrorCommand other_error) =
    Decides-like _ (ap ErrorCommand) (λ e. cc) (error_eq_decides error other_error)
command_eq_decides (RootCommand path mode) (RootCommand other_path other_mode) =
    Decides-like _ (λ p i. RootCommand (p.0 i) (p.1 i)) (λ e. (cc, cc))
    (Decides-and _ _ (path_eq_decides path other_path) (mode_eq_decides mode other_mode))
command_eq_decides (UnrootCommand path) (UnrootCommand other_path) =
    Decides-like _ (ap UnrootCommand) (λ e. cc) (path_eq_decides path other_path)
command_eq_decides ErrorsCommand ErrorsCommand = Decides-true refl
command_eq_decides (TickCommand now) (TickCommand other_now) =
    Decides-like _ (ap TickCommand) (λ e. cc) (unsigned_Decides now other_now)
command_eq_decides a b = Decides-false (λ e. cc)

-- the test of replies decides whether they are one
pub reply_eq_decides : (a b : ReplyValue) → Decides (reply_eq a b) (a ≡ b)
reply_eq_decides (TakenReply x) (TakenReply y) =
    Decides-like _ (ap TakenReply) (λ e. cc) (option_eq_decides file_id_eq_decides x y)
reply_eq_decides NotedReply NotedReply = Decides-true refl
reply_eq_decides RootedReply RootedReply = Decides-true refl
reply_eq_decides UnrootedReply UnrootedReply = Decides-true refl
reply_eq_decides (ErrorsReply x) (ErrorsReply y) =
    Decides-like _ (ap ErrorsReply) (λ e. cc) (errors_eq_decides x y)
reply_eq_decides (BatchReply x) (BatchReply y) =
    Decides-like _ (ap BatchReply) (λ e. cc) (events_eq_decides x y)
reply_eq_decides (RefusedReply x) (RefusedReply y) =
    Decides-like _ (ap RefusedReply) (λ e. cc) (error_eq_decides x y)
reply_eq_decides a b = Decides-false (λ e. cc)

-- equality of lists of events is an equivalence
pub events_eq_equiv : IsEquivalence events_eq
events_eq_equiv = decided events_eq events_eq_decides

-- equality of commands is an equivalence
pub command_eq_equiv : IsEquivalence command_eq
command_eq_equiv = decided command_eq command_eq_decides

-- equality of replies is an equivalence
pub reply_eq_equiv : IsEquivalence reply_eq
reply_eq_equiv = decided reply_eq reply_eq_decides
