-- The parts of an UPDATE (RFC 4271, 4.3): destinations that are withdrawn, path attributes, and
-- destinations that are announced.
use Rattle.std.specs.Prelude.{◌≡◌, ℕ, List, None}
use Rattle.bgp_open.specs.Family.TheVariants.{V4}
use Rattle.bgp_open.specs.declared.route_form.RouteForm.{RouteForm}
use Rattle.bgp_attr.specs.Field.{Attribute}
use Rattle.bgp_attr.specs.Split.{split_of}
use Rattle.bgp_update.specs.declared.destination.Destination.{Destination}
use Rattle.bgp_update.specs.declared.parts.Parts as declared
use Rattle.bgp_update.specs.Destinations.{AreDestinations, is_identified}
use Rattle.bgp_update.specs.Sections.{Sections, IsUpdate}

pub record UpdateParts : Type 0 where
  pub withdrawn : List Destination
  pub attributes : List Attribute
  pub nlri : List Destination

-- the octets are a whole UPDATE whose fields are these in this form, with nothing behind the last
-- attribute
pub record SpellsParts (form : RouteForm) (octets : List ℕ) (parts : UpdateParts) : Type 0 where
  pub sections : Sections
  pub update : IsUpdate octets sections
  pub withdrawn : AreDestinations (is_identified form V4) V4 sections.withdrawn parts.withdrawn
  pub attributes : split_of sections.attributes
      ≡ record { attributes = parts.attributes; tail = None }
  pub nlri : AreDestinations (is_identified form V4) V4 sections.nlri parts.nlri

-- a length, a list of destinations or the end of the attributes is at fault, or it is no UPDATE at
-- all
abbrev pub LacksParts : RouteForm → List ℕ → Type 0
LacksParts form octets = (parts : UpdateParts) → ¬ SpellsParts form octets parts

-- what the parts that were read are to a contract
abbrev pub parts_of : declared.Parts → UpdateParts
parts_of parts = record {
  withdrawn = parts.withdrawn;
  attributes = parts.attributes.attributes;
  nlri = parts.nlri;
}
