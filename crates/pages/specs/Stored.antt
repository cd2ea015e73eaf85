-- A stored page as plain lists and numbers.
use Rattle.pages.specs.declared.page.Page.{Page}
use Rattle.pages.specs.Model.{PageModel, parts_model}

abbrev pub page_model : Page → PageModel
page_model p = parts_model p.parts
