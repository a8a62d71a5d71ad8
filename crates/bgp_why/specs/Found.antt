-- The messages among items, item by item.
use Rattle.std.specs.Prelude.{Option, None, Some, if◌then◌else◌}
use Rattle.bgp_why.specs.declared.cause.Found.{Found}
use Rattle.bgp_why.specs.declared.cause.Found.TheVariants.{Nothing, One, Several}
use Rattle.bgp_why.specs.declared.items.Item.{Item}
use Rattle.bgp_why.specs.Deed.{is_message}

-- what is found once a message follows
abbrev pub with_message : Item → Found → Found
with_message item Nothing = One item
with_message item (One other) = Several
with_message item Several = Several

-- what is found once this item follows, if there is one
abbrev pub found_with : Option Item → Found → Found
found_with None found = found
found_with (Some item) found = if is_message item then with_message item found else found

abbrev pub the_one : Found → Option Item
the_one Nothing = None
the_one (One item) = Some item
the_one Several = None
