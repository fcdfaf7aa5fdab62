-- The places of members, as the definitions have them.
use Rattle.jvm_model.specs.Classes.Lookup.{MemberPlace, place_in}
use Rattle.member_selection.specs.declared.declared_member.DeclaredMember.{DeclaredMember}

abbrev pub at_place : DeclaredMember → MemberPlace
at_place m = place_in m.class m.position
