-- What the fields of an UPDATE that was split are to a contract.
use Rattle.bgp_update.specs.declared.fields.Fields.{Fields}
use Rattle.bgp_update.specs.Sections.{Sections}

abbrev pub sections_of : Fields → Sections
sections_of fields = record {
  withdrawn = fields.withdrawn.now;
  attributes = fields.attributes.now;
  nlri = fields.nlri.now;
}
