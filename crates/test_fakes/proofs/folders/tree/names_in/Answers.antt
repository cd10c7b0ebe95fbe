use Rattle.std.proofs.Common.{◌≡◌, ◌∙◌, ◌++◌, ◌∷◌, [], sym, ap, map, Some, None}
use Rattle.std.specs.Option.{option_copied}
use Rattle.std.specs.String.{string_bytes}
use Rattle.std.proofs.lemmas.List.{map-append}
use Rattle.test_fakes.specs.Folders.Tree.{name_in}
use Rattle.test_fakes.proofs.FoldersLemmas.NameLemmas.{one_more, no_more}
use Rattle.test_fakes.proofs.folders.tree.names_in.Goals as goal

pub loop-path-preserved-in_ok-push : goal.loop-path-preserved-in_ok-push
loop-path-preserved-in_ok-push g c =
    let path = c.in-Some.path.now in
    let name = c.in-Some-name_in.name.now in
    let found : name_in c.args.folder.now path ≡ Some name = sym c.name_in.ensures
    ∙ ap option_copied c.in-Some-name_in.is in
    let more : map string_bytes c.push.new.self.items ≡ map string_bytes c.loop-path.names.items ++ name ∷ [] =
    ap (map string_bytes) c.in_ok-push.ensures.items
    ∙ (map-append string_bytes c.loop-path.names.items (c.in_ok-from_str.field-0 ∷ [])
    ∙ ap (λ n. map string_bytes c.loop-path.names.items ++ n ∷ []) c.in_ok-from_str.ensures.ok) in
    one_more c.args.tree.now c.args.folder.now path c.in-Some._found.now c.loop-path.rest c.next.new.self
    (map string_bytes c.loop-path.names.items) (map string_bytes c.push.new.self.items) name
    c.in-Some.ensures.steps found more c.loop-path.invariant

pub loop-path-preserved : goal.loop-path-preserved
loop-path-preserved g c =
    let path = c.in-Some.path.now in
    let none : name_in c.args.folder.now path ≡ None = sym c.name_in.ensures
    ∙ ap option_copied c.in_default-name_in.is in
    no_more c.args.tree.now c.args.folder.now path c.in-Some._found.now c.loop-path.rest c.next.new.self
    (map string_bytes c.loop-path.names.items) c.in-Some.ensures.steps none c.loop-path.invariant
