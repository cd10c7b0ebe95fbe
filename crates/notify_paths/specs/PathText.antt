-- Which path a text is, and how a path is written.
use Rattle.std.specs.Prelude.{◌≡◌, ℕ, Bool, true, false, not, ◌&&◌, List, [], ◌∷◌, ◌++◌, map, if◌then◌else◌}
use Rattle.std.specs.Str.{bytes_eq}
use Rattle.std.specs.Path.{path_components, root_dir, cur_dir, parent_dir, slash, is_name, has_no_slash}
use Rattle.notify_paths.specs.Path.{PartValue, RootPart, CurPart, ParentPart, NamePart, PathValue}

-- the part that is written so
abbrev pub part_of : List ℕ → PartValue
part_of text =
    if bytes_eq text root_dir then RootPart
    else (if bytes_eq text cur_dir then CurPart
    else (if bytes_eq text parent_dir then ParentPart
    else NamePart text))

-- the path that a text is: its components, as Rust cuts them
abbrev pub parts_of : List ℕ → PathValue
parts_of text = map part_of (path_components text)

-- how a part is written
abbrev pub part_text : PartValue → List ℕ
part_text RootPart = root_dir
part_text CurPart = cur_dir
part_text ParentPart = parent_dir
part_text (NamePart bytes) = bytes

-- whether a slash stands between this part and the next
abbrev pub wants_slash : PartValue → Bool
wants_slash RootPart = false
wants_slash CurPart = true
wants_slash ParentPart = true
wants_slash (NamePart bytes) = true

-- the slash before the next part, if there is one
abbrev pub slash_if : Bool → List ℕ
slash_if true = slash ∷ []
slash_if false = []

-- the parts, joined by slashes, after a part that wants a slash or doesn't
abbrev pub text_after : Bool → PathValue → List ℕ
text_after slashed [] = []
text_after slashed (part ∷ parts) = slash_if slashed ++ (part_text part ++ text_after (wants_slash part) parts)

-- how a path is written
abbrev pub text_of : PathValue → List ℕ
text_of parts = text_after false parts

-- a name of a path: not empty, not `.` or `..`, and without a slash
abbrev pub is_proper_name : List ℕ → Bool
is_proper_name bytes = is_name bytes && (not (bytes_eq bytes parent_dir) && has_no_slash bytes)

-- what can stand after another part
abbrev pub is_inner : PartValue → Bool
is_inner RootPart = false
is_inner CurPart = false
is_inner ParentPart = true
is_inner (NamePart bytes) = is_proper_name bytes

-- each of these parts can stand after another
abbrev pub all_inner : PathValue → Bool
all_inner [] = true
all_inner (part ∷ parts) = is_inner part && all_inner parts

-- Root and Cur stand at the head alone, and each name is one
abbrev pub is_path : PathValue → Bool
is_path [] = true
is_path (RootPart ∷ parts) = all_inner parts
is_path (CurPart ∷ parts) = all_inner parts
is_path (ParentPart ∷ parts) = all_inner parts
is_path (NamePart bytes ∷ parts) = is_proper_name bytes && all_inner parts

-- the parts are those of a path
abbrev pub IsPath : PathValue → Type 0
IsPath parts = is_path parts ≡ true

-- the text is the one that its parts are written as
abbrev pub IsNormal : List ℕ → Type 0
IsNormal text = text_of (parts_of text) ≡ text
