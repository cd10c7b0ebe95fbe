-- What a run prints: its lines, byte by byte.
use Rattle.std.specs.Prelude.{ℕ, Bool, true, false, Option, Some, None, List, [], ◌∷◌, ◌++◌, length, codes}
use Rattle.std.specs.Fmt.{decimal}
use Rattle.std.specs.List.{join_with_byte}
use Rattle.notify_paths.specs.Errors.{ErrorValue, ErrorKindValue, GenericKind, IoKind, PathNotFoundKind, WatchNotFoundKind, FullKind, MemoryKind}
use Rattle.notify_types.specs.Event.{AttributesValue, Timed}
use Rattle.notify_types.specs.KindWords.{word_of}
use Rattle.notify_paths.specs.Path.{PathValue}
use Rattle.notify_paths.specs.PathText.{text_of}
use Rattle.notify_types.specs.declared.event.Flag.{Flag}
use Rattle.debounce_model.specs.Command.{CommandValue, TickCommand, ReplyValue, TakenReply, NotedReply, RootedReply, UnrootedReply, ErrorsReply, BatchReply, RefusedReply}

-- a path in a line: the empty path is two quotes
abbrev pub path_field : PathValue → List ℕ
path_field [] = codes "\"\""
path_field (part ∷ parts) = text_of (part ∷ parts)

-- the paths of a line, each after a space
abbrev pub path_fields : List PathValue → List ℕ
path_fields [] = []
path_fields (path ∷ paths) = 32 ∷ (path_field path ++ path_fields paths)

-- the tracker among the options, if there is one
abbrev pub tracker_words : Option ℕ → List (List ℕ)
tracker_words None = []
tracker_words (Some tracker) = (codes "tracker=" ++ decimal tracker) ∷ []

-- the info among the options, if there is one
abbrev pub info_words : Option (List ℕ) → List (List ℕ)
info_words None = []
info_words (Some info) = (codes "info=" ++ info) ∷ []

-- the flag among the options, if there is one
abbrev pub rescan_words : Option Flag → List (List ℕ)
rescan_words None = []
rescan_words (Some flag) = codes "rescan" ∷ []

-- the words, joined by commas, or `-` if there is none
abbrev pub words_field : List (List ℕ) → List ℕ
words_field [] = codes "-"
words_field (word ∷ words) = join_with_byte 44 (word ∷ words)

-- the options of an event: tracker, info and flag, in this order
abbrev pub options_field : AttributesValue → List ℕ
options_field attrs =
    words_field (tracker_words attrs.tracker ++ (info_words attrs.info ++ rescan_words attrs.flag))

-- an event line that begins with this word
abbrev pub event_line : List ℕ → Timed → List ℕ
event_line word x =
    word ++ (32 ∷ (decimal x.time ++ (32 ∷ (word_of x.event.kind
    ++ (32 ∷ (options_field x.event.attrs ++ (path_fields x.event.paths ++ (10 ∷ []))))))))

-- the head of a batch: the tick's moment, and how many event lines follow
abbrev pub batch_line : ℕ → ℕ → List ℕ
batch_line now count = codes "batch " ++ (decimal now ++ (32 ∷ (decimal count ++ (10 ∷ []))))

-- the word of an error
abbrev pub error_word : ErrorKindValue → List ℕ
error_word (GenericKind text) = codes "Generic"
error_word (IoKind kind) = codes "Io"
error_word PathNotFoundKind = codes "PathNotFound"
error_word WatchNotFoundKind = codes "WatchNotFound"
error_word FullKind = codes "Full"
error_word MemoryKind = codes "Memory"

-- the head of the errors: how many error lines follow
abbrev pub errors_line : ℕ → List ℕ
errors_line count = codes "errors " ++ (decimal count ++ (10 ∷ []))

-- an error line
abbrev pub error_line : ErrorKindValue → List ℕ
error_line kind = codes "error " ++ (error_word kind ++ (10 ∷ []))

-- a refused command
abbrev pub refused_line : ErrorKindValue → List ℕ
refused_line kind = codes "refused " ++ (error_word kind ++ (10 ∷ []))

-- how many events were taken, how many were given out, and how many wait
abbrev pub counts_line : ℕ → ℕ → ℕ → List ℕ
counts_line taken given waiting =
    codes "taken "
    ++ (decimal taken
    ++ (codes " given " ++ (decimal given ++ (codes " waiting " ++ (decimal waiting ++ (10 ∷ []))))))

-- a list of paths after this word
abbrev pub paths_line : List ℕ → List PathValue → List ℕ
paths_line word paths = word ++ (path_fields paths ++ (10 ∷ []))

-- an event line for each event
abbrev pub event_lines : List ℕ → List Timed → List ℕ
event_lines word [] = []
event_lines word (event ∷ events) = event_line word event ++ event_lines word events

-- an error line for each error
abbrev pub error_lines : List ErrorValue → List ℕ
error_lines [] = []
error_lines (error ∷ errors) = error_line error.kind ++ error_lines errors

-- what a call for the errors prints
abbrev pub errors_lines : List ErrorValue → List ℕ
errors_lines errors = errors_line (length errors) ++ error_lines errors

-- what the batch prints that a tick asked for
abbrev pub batch_lines : CommandValue → List Timed → List ℕ
batch_lines (TickCommand now) batch = batch_line now (length batch) ++ event_lines (codes "event") batch
batch_lines command batch = []

-- what a command prints by its reply
abbrev pub reply_lines : CommandValue → ReplyValue → List ℕ
reply_lines command (BatchReply batch) = batch_lines command batch
reply_lines command (ErrorsReply errors) = errors_lines errors
reply_lines command (RefusedReply error) = refused_line error.kind
reply_lines command (TakenReply answer) = []
reply_lines command NotedReply = []
reply_lines command RootedReply = []
reply_lines command UnrootedReply = []

-- what the commands print by their replies, in order
abbrev pub replies_lines : List CommandValue → List ReplyValue → List ℕ
replies_lines (command ∷ commands) (reply ∷ replies) =
    reply_lines command reply ++ replies_lines commands replies
replies_lines commands replies = []

-- the answer to a question
abbrev pub answer_word : Bool → List ℕ
answer_word true = codes "yes"
answer_word false = codes "no"

-- the answer to the question that this word stands for
abbrev pub answer_line : List ℕ → Bool → List ℕ
answer_line word answer = word ++ (32 ∷ (answer_word answer ++ (10 ∷ [])))
