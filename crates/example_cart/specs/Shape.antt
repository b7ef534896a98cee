-- What a picture is drawn with, as elements of SVG.
use Rattle.std.specs.Prelude.{ℕ, List, [], ◌∷◌, decimal}
use Rattle.std.specs.List.{concat}
use Rattle.example_cart.specs.declared.markup.TheConstants.{ALONG, BEFORE_ACROSS, BEFORE_CIRCLE_FILL, BEFORE_DOWN}
use Rattle.example_cart.specs.declared.markup.TheConstants.{BEFORE_FILL, BEFORE_RADIUS, BEHIND_SHAPE, LINE_END}
use Rattle.example_cart.specs.declared.shape.Shape.{Shape}
use Rattle.example_cart.specs.declared.shape.Shape.TheVariants.{Path, Circle, Element}

unfoldable pub shape_html : Shape → List ℕ
shape_html (Path fill path) = concat (BEFORE_FILL.now ∷ fill.now ∷ ALONG.now ∷ path.now ∷ BEHIND_SHAPE.now ∷ [])
shape_html (Circle across down radius fill) =
    concat (BEFORE_ACROSS.now ∷ decimal across ∷ BEFORE_DOWN.now ∷ decimal down ∷ BEFORE_RADIUS.now ∷ decimal radius ∷ BEFORE_CIRCLE_FILL.now ∷ fill.now
    ∷ BEHIND_SHAPE.now ∷ [])
shape_html (Element text) = concat (text.now ∷ LINE_END.now ∷ [])
