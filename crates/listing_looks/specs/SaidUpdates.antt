-- What was said in a look, as updates of what was known. The clauses of functions inside this crate cite this.
use Rattle.std.specs.Prelude.{Bool, not, List, [], ◌∷◌, filter, Option, None, Some, if◌then◌else◌}
use Rattle.std.specs.BTreeMap.{insert_entry}
use Rattle.notify_paths.specs.Path.{PathValue, is_prefix, path_cmp}
use Rattle.poll_listing.specs.declared.entry.Found.{Found}
use Rattle.poll_listing.specs.declared.updates.Update.{Update}
use Rattle.poll_listing.specs.declared.updates.Update.TheVariants.{Gone, Changed, Added}
use Rattle.poll_listing.specs.Listing.{ListingValue, entry_at}
use Rattle.poll_listing.specs.Updates.{UpdatesValue}
use Rattle.listing_looks.specs.Looks.{within}

-- the updates by which these entries go, added to what is to be updated already
abbrev pub all_gone : UpdatesValue → ListingValue → UpdatesValue
all_gone updates [] = updates
all_gone updates (entry ∷ entries) = all_gone (insert_entry path_cmp updates entry.0 Gone) entries

-- the updates of what doesn't lie at or below the path
abbrev pub untold : UpdatesValue → PathValue → UpdatesValue
untold updates path = filter (λ update. not (is_prefix path update.0)) updates

-- the updates by which what lies at and below these paths goes, or isn't updated, added to what is to be updated
-- already
abbrev pub each_gone : UpdatesValue → ListingValue → List (PathValue × Bool) → UpdatesValue
each_gone updates known [] = updates
each_gone updates known (top ∷ tops) =
    each_gone (if top.1 then all_gone updates (within known top.0) else untold updates top.0) known tops

-- what becomes of a path where this was known, and this was found
abbrev pub update_to : Option Found → Found → Update
update_to None found = Added found
update_to (Some before) found = Changed found

-- the updates by which what was found stands there, added to what is to be updated already
abbrev pub all_found : UpdatesValue → ListingValue → ListingValue → UpdatesValue
all_found updates known [] = updates
all_found updates known (entry ∷ entries) =
    all_found (insert_entry path_cmp updates entry.0 (update_to (entry_at known entry.0) entry.1)) known entries

-- the updates that lead from what was known to what was said
abbrev pub said_updates : ListingValue → List (PathValue × Bool) → ListingValue → UpdatesValue
said_updates known lost found = all_found (each_gone [] known lost) known found
