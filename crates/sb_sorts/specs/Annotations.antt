-- Private: how the forms of an annotation follow one another.
use Rattle.std.specs.Prelude.{Bool, not, ◌||◌, codes, Option, Some, None, is_some}
use Rattle.sb_reader.specs.Forms.{Form, Forms, Keyword}
use Rattle.sb_script.specs.Names.{Name, is_name}
use Rattle.sb_script.specs.Commands.{declarable}
use Rattle.sb_script.specs.Reading.{are_annotations, are_annotations_of}

-- the keyword that a form is
abbrev pub keyword_in : Form → Option Name
keyword_in (Keyword key) = Some key
keyword_in _ = None

-- the form may stand behind the last one, which is this keyword or none
abbrev pub may_follow : Option Name → Form → Bool
may_follow (Some key) form = not (is_name key (codes ":named")) || is_some (declarable form)
may_follow None form = is_some (keyword_in form)

-- the annotation goes on so, behind this keyword or none
abbrev pub goes_on : Option Name → Forms → Bool
goes_on (Some key) forms = are_annotations_of key forms
goes_on None forms = are_annotations forms
