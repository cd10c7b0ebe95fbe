-- How deep an event's JSON nests, and that it holds no float. The function that writes it cites these.
use Rattle.std.proofs.Common.{◌≡◌, ℕ, ◌+◌, ◌≤◌, ◌∙◌, max, sym, ap, subst, List, [], ◌∷◌, ◌++◌, map, take, length, Option, None, Some, false, refl, arith}
use Rattle.std.proofs.lemmas.List.{map-append, take_all}
use Rattle.std.specs.declared.alloc.Global.{Global}
use Rattle.std.specs.declared.vec.Vec.{Vec}
use Rattle.serde_json.proofs.Views.{view-Array}
use Rattle.serde_json.specs.declared.value.Value.{Value, Array}
use Rattle.serde_json.specs.View.{view, items_of}
use Rattle.serde_json.specs.Data.{Data, array, depth, items_depth}
use Rattle.serde_json.specs.Written.{has_float, items_have_float, compact_text}
use Rattle.serde_json.specs.Read.{read}
use Rattle.notify_types.specs.declared.event.Flag.{Flag}
use Rattle.notify_types.specs.Event.{Timed}
use Rattle.notify_paths.specs.Path.{PathValue}
use Rattle.program_logic.specs.Journal.Json.{event_data, flag_or_null, json_text, number_or_null, path_data, path_items, path_or_null, text_or_null}

-- paths don't nest
paths_depth : (paths : List PathValue) → items_depth (path_items paths) ≡ 0
paths_depth [] = refl
paths_depth (path ∷ paths) = ap (λ n. max 0 n) (paths_depth paths)

-- nor does a text, a number or a flag
text_depth : (text : Option (List ℕ)) → depth (text_or_null text) ≡ 0
text_depth None = refl
text_depth (Some text) = refl

number_depth : (n : Option ℕ) → depth (number_or_null n) ≡ 0
number_depth None = refl
number_depth (Some n) = refl

flag_depth : (flag : Option Flag) → depth (flag_or_null flag) ≡ 0
flag_depth None = refl
flag_depth (Some flag) = refl

-- nor does a path, if there is one
path_depth : (path : Option PathValue) → depth (path_or_null path) ≡ 0
path_depth None = refl
path_depth (Some path) = refl

-- an event nests two deep
event_depth : (at : Option (List ℕ)) (seq : ℕ) (from : Option PathValue) (x : Timed) →
    depth (event_data at seq from x) ≡ 2
unfolding event_data
event_depth at seq from x =
    rw (
      paths_depth x.event.paths,
      text_depth at,
      path_depth from,
      text_depth x.event.attrs.info,
      number_depth x.event.attrs.tracker,
      flag_depth x.event.attrs.flag,
    ) refl

-- .. which the reader reads
pub event_shallow : (at : Option (List ℕ)) (seq : ℕ) (from : Option PathValue) (x : Timed) →
    depth (event_data at seq from x) ≤ 127
event_shallow at seq from x = rw (event_depth at seq from x) (omega arith)

-- paths hold no float
paths_float : (paths : List PathValue) → items_have_float (path_items paths) ≡ false
paths_float [] = refl
paths_float (path ∷ paths) = paths_float paths

-- nor does a text, a number or a flag
text_float : (text : Option (List ℕ)) → has_float (text_or_null text) ≡ false
text_float None = refl
text_float (Some text) = refl

number_float : (n : Option ℕ) → has_float (number_or_null n) ≡ false
number_float None = refl
number_float (Some n) = refl

flag_float : (flag : Option Flag) → has_float (flag_or_null flag) ≡ false
flag_float None = refl
flag_float (Some flag) = refl

-- nor does a path, if there is one
path_float : (path : Option PathValue) → has_float (path_or_null path) ≡ false
path_float None = refl
path_float (Some path) = refl

-- nor does an event
pub event_float : (at : Option (List ℕ)) (seq : ℕ) (from : Option PathValue) (x : Timed) →
    has_float (event_data at seq from x) ≡ false
unfolding event_data
event_float at seq from x =
    rw (
      paths_float x.event.paths,
      text_float at,
      path_float from,
      text_float x.event.attrs.info,
      number_float x.event.attrs.tracker,
      flag_float x.event.attrs.flag,
    ) refl

-- the compact text of an event's value
pub text_is : (at : Option (List ℕ)) (seq : ℕ) (from : Option PathValue) (x : Timed) (value : Data) (text : List ℕ) →
    value ≡ event_data at seq from x → (has_float value ≡ false → text ≡ compact_text value) →
    text ≡ json_text at seq from x
unfolding json_text
text_is at seq from x value text e compact = compact (ap has_float e ∙ event_float at seq from x) ∙ ap compact_text e

-- .. is read as that value
pub read_is : (at : Option (List ℕ)) (seq : ℕ) (from : Option PathValue) (x : Timed) (value : Data) (text : List ℕ) →
    value ≡ event_data at seq from x → (depth value ≤ 127 → read text ≡ Some value) →
    read text ≡ Some (event_data at seq from x)
read_is at seq from x value text e reads = reads (subst (λ d. depth d ≤ 127) (sym e) (event_shallow at seq from x))
    ∙ ap Some e

-- one value more
pub values_more : (values more : List Value) (value : Value)
    → (paths : List PathValue) (i : ℕ) (path : PathValue)
    → more ≡ values ++ value ∷ [] → view value ≡ path_data path → take (i + 1) paths ≡ take i paths ++ path ∷ []
    → map view values ≡ map path_data (take i paths) → map view more ≡ map path_data (take (i + 1) paths)
values_more values more value paths i path pushed seen one so_far =
    ap (map view) pushed ∙ map-append view values (value ∷ []) ∙ ap (λ ds. ds ++ view value ∷ []) so_far
    ∙ ap (λ d. map path_data (take i paths) ++ d ∷ []) seen
    ∙ sym (map-append path_data (take i paths) (path ∷ []))
    ∙ ap (map path_data) (sym one)

-- the value of all
pub values_all : (values : Vec Value Global) (paths : List PathValue) (i : ℕ) → length paths ≤ i
    → map view values.items ≡ map path_data (take i paths) → view (Array values) ≡ array (path_items paths)
values_all values paths i end so_far =
    view-Array values ∙ ap (λ ds. array (items_of ds)) (so_far ∙ ap (map path_data) (take_all i paths end))
