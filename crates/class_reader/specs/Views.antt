-- What the code holds, seen as the definitions have it.
use Rattle.class_reader.specs.declared.heading.Body.{Body as Parts}
use Rattle.class_reader.specs.ClassFormat.{Body}

abbrev pub body_view : Parts → Body
body_view b = record { access = b.access; this_class = b.this_class; super_class = b.super_class; interfaces = b.interfaces; fields = b.fields; methods = b.methods; attributes = b.attributes }
